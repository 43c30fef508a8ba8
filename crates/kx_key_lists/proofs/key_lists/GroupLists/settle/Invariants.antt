use Rattle.std.proofs.Common.{◌≡◌, ℕ}
use Rattle.kx_key_lists.specs.Records.{value_in, width_in_key}
use Rattle.kx_key_lists.proofs.key_lists.GroupLists.settle.Given as goal

abbrev pub invariant-groups : goal.invariant-groups
invariant-groups t l = ((g k : ℕ) → value_in (record { from = l.self-inside.from; lists = l.self-inside.lists.items }) g k ≡ value_in (record { from = l.initial.self-inside.from; lists = l.initial.self-inside.lists.items }) g k) × ((g : ℕ) → width_in_key (record { from = l.self-inside.from; lists = l.self-inside.lists.items }) g ≡ width_in_key (record { from = l.initial.self-inside.from; lists = l.initial.self-inside.lists.items }) g)

abbrev pub decreases-groups : goal.decreases-groups
decreases-groups t l = l.self-inside.from
