use Rattle.std.proofs.Common.{◌≡◌, ◌-◌, length}
use Rattle.kx_key_fields.specs.Attributes.{widened_to}
use Rattle.kx_key_fields.proofs.group_types.widen.Given as goal

abbrev pub invariant-groups : goal.invariant-groups
invariant-groups l = widened_to l.count l.types.items ≡ widened_to l.count l.initial.types.items

abbrev pub decreases-groups : goal.decreases-groups
decreases-groups l = l.count - length l.types.items
