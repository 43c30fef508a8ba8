use Rattle.std.proofs.Common.{◌≡◌, map, take}
use Rattle.indexmap.specs.IndexMap.{keys}
use Rattle.kx_compat.specs.Shown.{interpretation_recorded}
use Rattle.kx_compat.proofs.listing.listed.Given as goal

abbrev pub invariant-entries : goal.invariant-entries
invariant-entries l = (l.entry-items ≡ l.records.entries) × (l.all.items ≡ map (interpretation_recorded l.records) (take l.entry-index (keys l.records)))
