use Rattle.std.proofs.Common.{List}
use Rattle.indexmap.specs.IndexMap.{get, keys}
use Rattle.kx_include.specs.Expansion.{Body}
use Rattle.kx_merge.specs.Gatherings.{AreGathered}
use Rattle.kx_merge.proofs.Passing.{Covering}
use Rattle.kx_merge.proofs.gathering.merge_map.Given as goal

abbrev pub invariant-entries : goal.invariant-entries
invariant-entries g l = (bodies : List Body) → AreGathered g.R.Fields.form g.R.Key.PartialEq.eq (g.R.Fields.rules l.context) g.R.Fields.moves l.done bodies
    → Covering g.R.Fields.form g.R.Key.PartialEq.eq g.met.R.Key.Eq.laws (g.R.Fields.rules l.context) g.R.Fields.moves bodies l.map.place l.map.entries.items (keys l.initial.walk.merged.records) (get g.R.Key.PartialEq.eq l.initial.walk.merged.records) (l.last.mode, l.last.links.now) l.since l.walk.replaced.marks.items l.walk.replaced.keys.items l.place l.defaults (keys l.walk.merged.records) (get g.R.Key.PartialEq.eq l.walk.merged.records)
