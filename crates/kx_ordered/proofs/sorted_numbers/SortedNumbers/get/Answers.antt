use Rattle.std.proofs.Common.{◌≡◌, None, Some, arith, cond, false, nat_eq, sym, true, ap, ◌∙◌}
use Rattle.std.proofs.lemmas.Bool.Decides.{nat_tests}
use Rattle.std.proofs.lemmas.Cmp.{nat_cmp_total}
use Rattle.std.specs.Cmp.{unsigned_ties}
use Rattle.std.specs.Option.{option_copied}
use Rattle.kx_ordered.proofs.Sorted.{found, value_after}
use Rattle.kx_ordered.proofs.sorted_numbers.SortedNumbers.get.Goals as goal

pub returns-in-None : goal.returns-in-None
returns-in-None g c =
    let number = c.args.number in
    let looked = found nat_cmp_total unsigned_ties number c.args.self.now c.place-place.result c.place-place.ensures.sorted c.place-place.ensures.point (option_copied c.entry.result) c.entry.ensures in
    sym (looked ∙ ap (λ o. value_after nat_eq number (option_copied o)) c.in-None.is)

pub returns-then-number-entry : goal.returns-then-number-entry
returns-then-number-entry g c =
    let number = c.args.number in
    let looked = found nat_cmp_total unsigned_ties number c.args.self.now c.place-place.result c.place-place.ensures.sorted c.place-place.ensures.point (option_copied c.entry.result) c.entry.ensures in
    let is : nat_eq number c.in-Some.entry.now.0 ≡ true = grind (arith, nat_tests, c.if-number-entry.true) in
    sym (looked ∙ ap (λ o. value_after nat_eq number (option_copied o)) c.in-Some.is ∙ ap (λ b. cond b (Some c.in-Some.entry.now.1) None) is)

pub returns-else-number-entry : goal.returns-else-number-entry
returns-else-number-entry g c =
    let number = c.args.number in
    let looked = found nat_cmp_total unsigned_ties number c.args.self.now c.place-place.result c.place-place.ensures.sorted c.place-place.ensures.point (option_copied c.entry.result) c.entry.ensures in
    let is : nat_eq number c.in-Some.entry.now.0 ≡ false = grind (arith, nat_tests, c.if-number-entry.false) in
    sym (looked ∙ ap (λ o. value_after nat_eq number (option_copied o)) c.in-Some.is ∙ ap (λ b. cond b (Some c.in-Some.entry.now.1) None) is)
