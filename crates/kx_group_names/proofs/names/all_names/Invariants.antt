use Rattle.std.proofs.Common.{◌≡◌, ◌<◌, ◌+◌, ℕ, length}
use Rattle.kx_group_names.specs.Names.{name_at, name_recorded}
use Rattle.kx_group_names.proofs.names.all_names.Given as goal

abbrev pub invariant-groups : goal.invariant-groups
invariant-groups l = (length l.names.items ≡ l.group) × ((group : ℕ) → group < l.group → name_at l.names.items group ≡ name_recorded l.records (group + 1))
