use Rattle.std.proofs.Common.{◌≡◌, nat_eq, take}
use Rattle.kx_types.specs.Firsts.{each_once}
use Rattle.kx_types.specs.KeyTypes.{mask_in}
use Rattle.kx_types.proofs.definition.masks_of.Given as goal

abbrev pub invariant-said : goal.invariant-said
invariant-said l = l.masks ≡ each_once nat_eq (mask_in l.modifiers) (take l.saying-index l.said)
