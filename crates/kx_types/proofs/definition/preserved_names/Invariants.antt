use Rattle.std.proofs.Common.{◌≡◌, ℕ, None, nat_eq, take}
use Rattle.indexmap.specs.IndexMap.{get}
use Rattle.kx_merge.specs.Last.{last_given}
use Rattle.kx_types.specs.KeyTypes.{preserved}
use Rattle.kx_types.proofs.definition.preserved_names.Given as goal

abbrev pub invariant-said : goal.invariant-said
invariant-said l = (mask : ℕ) → get nat_eq l.kept mask ≡ last_given (preserved l.modifiers mask) None (take l.saying-index l.said)
