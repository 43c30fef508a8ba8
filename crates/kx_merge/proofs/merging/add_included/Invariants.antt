use Rattle.std.proofs.Common.{List, Ok, take, ◌≡◌}
use Rattle.std.specs.Map.{keys_of}
use Rattle.kx_merge.specs.Gatherings.{Merges}
use Rattle.kx_merge.specs.Joins.{linked_to}
use Rattle.kx_merge.specs.Offers.{Offer}
use Rattle.kx_merge.proofs.Movings.{AllGood}
use Rattle.kx_merge.proofs.merging.add_included.Given as goal

abbrev pub invariant-records : goal.invariant-records
invariant-records g l = (l.entry-items ≡ l.fn.given.entries) × ((inner : List (Offer g.row.R-Key.Denot g.row.R-Cell.Denot g.row.R-Value.Denot))
    → AllGood g.R.Fields.form g.R.Key.PartialEq.eq inner (take l.entry-index l.entry-items)
    → Merges g.R.Fields.form g.R.Key.PartialEq.eq l.initial.records (Ok (tt {0})) l.records (linked_to g.R.Key.PartialEq.eq g.R.Fields.moves l.link (keys_of (take l.entry-index l.entry-items)) inner))
