use Rattle.std.proofs.lemmas.Result.{err_from_is_err_and}
use Rattle.kx_parse.proofs.Trees.{SpellsFile-from_read}
use Rattle.kx_parse.proofs.Refusals.{file-stopped, file-complete}
use Rattle.kx_parse.proofs.sections.parse_file.Goals as goal

pub returns-clause-spelled : goal.returns-clause-spelled
returns-clause-spelled c = SpellsFile-from_read _ _ _ _ c.in_ok-tree.ensures

pub returns-in_err-tree-clause-stopped : goal.returns-in_err-tree-clause-stopped
returns-in_err-tree-clause-stopped c =
    let p = err_from_is_err_and c.from_residual.result c.from_residual.ensures.1 in
    rw (p.1, p.2) (file-stopped c.args.text.now c.args.tokens.now _ c.in_err-tree.ensures)

pub returns-in_err-tree-clause-complete : goal.returns-in_err-tree-clause-complete
returns-in_err-tree-clause-complete c tree s =
    let p = err_from_is_err_and c.from_residual.result c.from_residual.ensures.1 in
    rw (p.1, p.2) (file-complete c.args.text.now c.args.tokens.now _ c.in_err-tree.ensures tree s)
