use Rattle.std.proofs.Common.{sym, ap, ◌∙◌}
use Rattle.std.proofs.lemmas.List.{drop_all}
use Rattle.kx_lex.specs.Keywords.{rows_of, spelled_in}
use Rattle.kx_lex.proofs.Keywords.{row_found, row_passed}
use Rattle.kx_lex.proofs.keyword.spelled_in.Goals as goal

pub returns-then-is_spelled : goal.returns-then-is_spelled
returns-then-is_spelled c = sym (c.rows.invariant ∙ row_found c.args.word.now c.args.rows.now c.rows.row-index _ c.rows-test.true (sym c.is_spelled.ensures ∙ c.if-is_spelled.true))

pub rows-preserved : goal.rows-preserved
rows-preserved c = c.rows.invariant ∙ row_passed c.args.word.now c.args.rows.now c.rows.row-index _ c.rows-test.true (sym c.is_spelled.ensures ∙ c.if-is_spelled.false)

pub returns : goal.returns
returns c = sym (c.rows.invariant ∙ ap (λ rows. spelled_in c.args.word.now (rows_of rows)) (drop_all c.rows.row-index c.args.rows.now c.rows-test.false))
