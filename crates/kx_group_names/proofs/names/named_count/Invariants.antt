use Rattle.std.proofs.Common.{◌≡◌, ◌<◌, ◌≤◌, ◌-◌, ℕ, []}
use Rattle.kx_group_names.specs.Names.{name_at}
use Rattle.kx_group_names.proofs.names.named_count.Given as goal

abbrev pub invariant-names : goal.invariant-names
invariant-names l = (l.count ≤ l.place) × ((group : ℕ) → l.count ≤ group → group < l.place → name_at l.names group ≡ []) × (name_at l.names (l.count - 1) ≡ [] → l.count ≡ 0)
