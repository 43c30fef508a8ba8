use Rattle.std.proofs.Common.{◌≡◌, take}
use Rattle.kx_key_fields.proofs.group_types.GroupTypes.try_clone.Given as goal

abbrev pub invariant-types : goal.invariant-types
invariant-types l = l.types.items ≡ take l.name-index l.name-items
