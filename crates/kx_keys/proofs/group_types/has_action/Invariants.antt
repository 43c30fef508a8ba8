use Rattle.std.proofs.Common.{◌≡◌, is_some}
use Rattle.kx_virtual_mods.specs.Sets.{any_below}
use Rattle.kx_keys.specs.Given.{given}
use Rattle.kx_keys.proofs.group_types.has_action.Given as goal

abbrev pub invariant-groups : goal.invariant-groups
invariant-groups l = l.found ≡ any_below l.group (λ group. any_below ((given l.key).width group) (λ level. is_some ((given l.key).action group level)))
