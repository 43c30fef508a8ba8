use Rattle.std.proofs.Common.{◌≡◌, ◌++◌, drop, map}
use Rattle.std.specs.List.{flat_map}
use Rattle.indexmap.specs.IndexMap.{keys}
use Rattle.kx_modmaps.specs.Maps.{shown_entry}
use Rattle.kx_modmaps.specs.Shown.{keysym_recorded}
use Rattle.kx_modmaps.proofs.maps.keysym_entries.Given as goal

abbrev pub invariant-targets : goal.invariant-targets
invariant-targets l = (l.target-items ≡ l.records.entries) × (flat_map (keysym_recorded l.records) (keys l.records) ≡ map shown_entry l.entries.items ++ flat_map (keysym_recorded l.records) (drop l.target-index (keys l.records)))
