use Rattle.std.proofs.Common.{◌≡◌, take}
use Rattle.kx_types.specs.KeyTypes.{levels_of}
use Rattle.kx_types.proofs.definition.levels_of.Given as goal

abbrev pub invariant-said : goal.invariant-said
invariant-said l = l.levels ≡ levels_of (take l.saying-index l.said)
