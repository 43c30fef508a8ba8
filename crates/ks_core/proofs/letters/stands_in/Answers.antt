use Rattle.std.proofs.Common.{◌≡◌, ◌<◌, false, nat_le, sym, ◌∙◌, arith}
use Rattle.std.proofs.lemmas.Bool.Decides.{nat_tests}
use Rattle.std.proofs.lemmas.Option.{get_or_from_slice_get}
use Rattle.ks_core.proofs.RisingLemmas.{searched_stands, stands_after}
use Rattle.ks_core.proofs.letters.stands_in.Goals as goal

pub returns-then-first-number : goal.returns-then-first-number
returns-then-first-number c = c.is_ok.ensures.value ∙ searched_stands c.args.number c.args.numbers.now c.binary_search.result c.binary_search.ensures.position c.requires

pub returns-else-first-number : goal.returns-else-first-number
returns-else-first-number c =
    let less : c.args.number < c.in-Some.first.now = c.if-first-number.false in
    let none : nat_le c.in-Some.first.now c.args.number ≡ false = grind (arith, nat_tests, less) in
    let first = get_or_from_slice_get c.args.numbers.now 0 c.in-Some.first.now 0 (sym c.in-Some.ensures.value) in
    none ∙ sym (stands_after c.args.number c.args.numbers.now c.requires (omega (arith, first, less)))
