use Rattle.std.proofs.Common.{map, take}
use Rattle.kx_mods.specs.Mods.{mask}
use Rattle.kx_tree.specs.declared.tree.Mode.{Mode}
use Rattle.kx_modmaps.specs.Maps.{AreAssigned, map_offer}
use Rattle.kx_modmaps.proofs.record.records_for.Given as goal

abbrev pub invariant-targets : goal.invariant-targets
invariant-targets l = (mode : Mode) → AreAssigned mode l.records.items (map (map_offer mode (mask l.mods)) (take l.target-index l.targets))
