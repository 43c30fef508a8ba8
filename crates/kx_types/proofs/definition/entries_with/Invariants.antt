use Rattle.std.proofs.Common.{◌≡◌, map, nat_eq, take}
use Rattle.indexmap.specs.IndexMap.{get}
use Rattle.kx_types.specs.KeyTypes.{entry_with}
use Rattle.kx_types.proofs.definition.entries_with.Given as goal

abbrev pub invariant-masks : goal.invariant-masks
invariant-masks l = (l.mask-items ≡ l.masks) × (l.entries.items ≡ map (entry_with (get nat_eq l.levels) (get nat_eq l.kept)) (take l.mask-index l.masks))
