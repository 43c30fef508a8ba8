use Rattle.std.proofs.Common.{sym, ap, subst, ◌∙◌}
use Rattle.std.proofs.lemmas.Option.{same_Some}
use Rattle.std.specs.List.{slice_get}
use Rattle.kx_codes.specs.Indexed.{Stands}
use Rattle.kx_codes.specs.Numbers.{with_numbers}
use Rattle.kx_codes.specs.Numbers.{number}
use Rattle.kx_codes.specs.Pairs.{Pair, taken}
use Rattle.kx_codes.proofs.NumberMaps.{numbers_at}
use Rattle.kx_codes.proofs.Standing.{coded_at}
use Rattle.kx_codes.proofs.pairs.Pairs.take_at.Goals as goal

pub returns-in_ok-take-in-Some-clause-took : goal.returns-in_ok-take-in-Some-clause-took
returns-in_ok-take-in-Some-clause-took c = λ ps p s is.
    let q : Pair = record { name = number c.in-Some.name.now; code = c.in-Some.code.now } in
    let stored = coded_at (with_numbers c.given.inside.names.entries) c.args.place c.in-Some.code.now (number c.in-Some.name.now) (numbers_at c.given.inside.names.entries c.args.place c.in-Some.code.now c.in-Some.name.now (sym c.in-Some.ensures.entry)) in
    let same = same_Some q p (sym stored ∙ ap (λ m. slice_get m.by_code c.args.place) c.given.view_is ∙ is) in
    subst (λ r. Stands c.take.new.self (taken c.args.mode ps r)) same (c.in_ok-take-in-Some.ensures.took ps s)
