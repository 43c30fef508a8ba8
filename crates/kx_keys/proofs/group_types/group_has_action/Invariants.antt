use Rattle.std.proofs.Common.{◌≡◌, is_some}
use Rattle.kx_virtual_mods.specs.Sets.{any_below}
use Rattle.kx_keys.specs.Given.{given}
use Rattle.kx_keys.proofs.group_types.group_has_action.Given as goal

abbrev pub invariant-levels : goal.invariant-levels
invariant-levels l = l.found ≡ any_below l.level (λ level. is_some ((given l.key).action l.group level))
