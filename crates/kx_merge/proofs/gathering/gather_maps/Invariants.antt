use Rattle.std.proofs.Common.{List, drop, [], ◌≡◌}
use Rattle.kx_include.specs.Expansion.{Body}
use Rattle.kx_include.specs.Shared.{bodies_behind}
use Rattle.kx_merge.specs.Gatherings.{AreGathered}
use Rattle.kx_merge.proofs.gathering.gather_maps.Given as goal

abbrev pub invariant-maps : goal.invariant-maps
invariant-maps g l = (bodies : List Body) × AreGathered g.R.Fields.form g.R.Key.PartialEq.eq (g.R.Fields.rules l.context) g.R.Fields.moves l.done.items bodies × (bodies_behind bodies (drop l.map-index l.maps) ≡ bodies_behind [] l.maps)
