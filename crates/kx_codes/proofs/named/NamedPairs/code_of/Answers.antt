use Rattle.std.proofs.Common.{ap, sym, ◌∙◌}
use Rattle.std.specs.Option.{option_and_then}
use Rattle.kx_codes.specs.Numbers.{number}
use Rattle.kx_codes.specs.Pairs.{code_in}
use Rattle.kx_codes.proofs.named.NamedPairs.code_of.Goals as goal

pub returns-in-None : goal.returns-in-None
returns-in-None c =
    ap (option_and_then (λ n. code_in c.self.inside.pairs.by_name (number n))) (sym c.in-None.is ∙ c.place.ensures)
    ∙ c.self.invariant.0 c.args.name.now ∙ ap (λ m. code_in m.by_name c.args.name.now) c.self.view_is

pub returns-in-Some : goal.returns-in-Some
returns-in-Some c =
    c.code_of.ensures
    ∙ ap (option_and_then (λ n. code_in c.self.inside.pairs.by_name (number n))) (sym c.in-Some.is ∙ c.place.ensures)
    ∙ c.self.invariant.0 c.args.name.now ∙ ap (λ m. code_in m.by_name c.args.name.now) c.self.view_is
