use Rattle.std.proofs.Common.{◌≡◌, ℕ, ◌≤◌, List, arith, ap, rules, true, false, sym, subst, ◌∙◌}
use Rattle.std.proofs.lemmas.Bool.Decides.{nat_tests}
use Rattle.std.proofs.lemmas.Cmp.{nat_cmp_total}
use Rattle.std.proofs.lemmas.List.Sorted.{IsPartitionPoint-from_clause}
use Rattle.std.specs.Cmp.{unsigned_ties}
use Rattle.std.specs.List.Sorted.{IsPartitionPoint, IsSortedByKey}
use Rattle.std.specs.Option.{option_copied}
use Rattle.std.specs.Ordering.{is_lt, nat_cmp}
use Rattle.kx_ordered.specs.Sorted.{EndsBelow}
use Rattle.kx_ordered.proofs.Sorted.{none_below, parted}
use Rattle.kx_ordered.proofs.sorted_numbers.SortedNumbers.place.Goals as goal

pub returns-in-Some : goal.returns-in-Some
returns-in-Some g c =
    let number = c.args.number in
    let is_sorted : List (ℕ × g.row.V.Denot) → Type 0 = λ es. IsSortedByKey (λ (e : ℕ × g.row.V.Denot). e.0) nat_cmp es in
    let there = subst is_sorted (sym c.deref.ensures.value) c.self.invariant in
    let low : number ≤ c.in-Some.first.now.0 = grind (arith, nat_tests, c.if-number-first.true) in
    let point = none_below number c.deref.result.now c.in-Some.first.now there (ap option_copied (sym c.in-Some.is) ∙ c.first.ensures.value) low in
    record { point = subst (λ es. EndsBelow nat_cmp number es 0) (c.deref.ensures.value ∙ c.self.view_is) point; sorted = subst is_sorted c.self.view_is c.self.invariant }

pub returns-in_default : goal.returns-in_default
returns-in_default g c =
    let number = c.args.number in
    let is_sorted : List (ℕ × g.row.V.Denot) → Type 0 = λ es. IsSortedByKey (λ (e : ℕ × g.row.V.Denot). e.0) nat_cmp es in
    let is_point : List (ℕ × g.row.V.Denot) → Type 0 = λ es. IsPartitionPoint (λ (e : ℕ × g.row.V.Denot). is_lt (nat_cmp e.0 number) ≡ true) (λ (e : ℕ × g.row.V.Denot). is_lt (nat_cmp e.0 number) ≡ false) es c.partition_point.result in
    let there = subst is_sorted (sym c.deref-in_default.ensures.value) c.self.invariant in
    let point = IsPartitionPoint-from_clause (λ (e : ℕ × g.row.V.Denot). is_lt (nat_cmp e.0 number)) c.deref-in_default.result.now c.partition_point.result c.partition_point.ensures.partitioned (parted nat_cmp_total unsigned_ties number c.deref-in_default.result.now there) (λ a r f2 k. search rules) in
    record { point = subst is_point (c.deref-in_default.ensures.value ∙ c.self.view_is) point; sorted = subst is_sorted c.self.view_is c.self.invariant }
