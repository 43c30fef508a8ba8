use Rattle.std.proofs.Common.{◌≡◌, take}
use Rattle.kx_types.specs.KeyTypes.{modifiers_of}
use Rattle.kx_types.proofs.definition.modifiers_of.Given as goal

abbrev pub invariant-said : goal.invariant-said
invariant-said l = l.modifiers ≡ modifiers_of (take l.saying-index l.said)
