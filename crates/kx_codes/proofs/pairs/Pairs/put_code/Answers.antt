use Rattle.std.proofs.Common.{Some, cond, sym, ap, ◌∙◌}
use Rattle.std.specs.Str.{bytes_eq}
use Rattle.kx_codes.specs.Numbers.{number}
use Rattle.kx_codes.specs.Pairs.{code_in}
use Rattle.kx_codes.proofs.NumberMaps.{code_numbered, put_numbered}
use Rattle.kx_codes.proofs.pairs.Pairs.put_code.Goals as goal

pub returns-clause-before : goal.returns-clause-before
returns-clause-before c = c.in_ok-insert.ensures.old ∙ sym (code_numbered c.self.inside.codes.entries c.args.name) ∙ ap (λ m. code_in m.by_name (number c.args.name)) c.self.view_is

pub returns-clause-put : goal.returns-clause-put
returns-clause-put c = λ n.
    put_numbered c.self.inside.codes.entries c.insert.new.self.entries c.args.name c.args.code c.in_ok-insert.ensures.entries n
    ∙ ap (λ m. cond (bytes_eq (number c.args.name) n) (Some c.args.code) (code_in m.by_name n)) c.self.view_is
