use Rattle.std.proofs.Common.{◌≡◌}
use Rattle.kx_keys.specs.Given.{given}
use Rattle.kx_keys.specs.GroupTypes.{groups_within}
use Rattle.kx_keys.proofs.group_types.group_count.Given as goal

abbrev pub invariant-groups : goal.invariant-groups
invariant-groups l = l.count ≡ groups_within (given l.key) l.group
