use Rattle.std.proofs.Common.{List}
use Rattle.indexmap.specs.IndexMap.{get, keys}
use Rattle.kx_include.specs.Expansion.{Body}
use Rattle.kx_merge.specs.Bodies.{Rules}
use Rattle.kx_merge.specs.Gatherings.{AreGathered}
use Rattle.kx_merge.proofs.Parting.{Parted}
use Rattle.kx_merge.proofs.gathering.merge_links.Given as goal

abbrev pub invariant-links : goal.invariant-links
invariant-links g l = (rules : Rules g.row.R-Key.Denot g.row.R-Cell.Denot g.row.R-Value.Denot g.row.R-Defaults.Denot) (bodies : List Body) → AreGathered g.R.Fields.form g.R.Key.PartialEq.eq rules g.R.Fields.moves l.done bodies
    → Parted g.R.Fields.form g.R.Key.PartialEq.eq g.met.R.Key.Eq.laws rules g.R.Fields.moves bodies l.links (keys l.initial.merged.records) (get g.R.Key.PartialEq.eq l.initial.merged.records) l.since l.place (keys l.merged.records) (get g.R.Key.PartialEq.eq l.merged.records)
