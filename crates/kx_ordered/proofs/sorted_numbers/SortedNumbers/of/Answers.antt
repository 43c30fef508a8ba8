use Rattle.std.proofs.Common.{rules}
use Rattle.std.proofs.lemmas.Cmp.{nat_cmp_total}
use Rattle.std.proofs.lemmas.List.Sorted.{answers_always, length_permutation}
use Rattle.std.specs.Cmp.{unsigned_ties}
use Rattle.kx_ordered.proofs.Sorted.{stably}
use Rattle.kx_ordered.proofs.sorted_numbers.SortedNumbers.of.Goals as goal

pub invariant_of-result : goal.invariant_of-result
invariant_of-result g c = c.in_ok-sort_by_key.ensures.sorted (λ e. e.0) (answers_always _ _ _ (λ f a r f2 k. search rules))

pub returns : goal.returns
returns g c = stably nat_cmp_total unsigned_ties c.args.entries.items c.sort_by_key.new.self.items (length_permutation c.args.entries.items c.sort_by_key.new.self.items c.sort_by_key.ensures.permutation) (c.sort_by_key.ensures.stable (λ e. e.0) (answers_always _ _ _ (λ f a r f2 k. search rules)))
