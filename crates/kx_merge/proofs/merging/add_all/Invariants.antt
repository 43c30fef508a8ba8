use Rattle.std.proofs.Common.{List, Ok}
use Rattle.kx_merge.specs.Gatherings.{Merges}
use Rattle.kx_merge.specs.Offers.{Offer}
use Rattle.kx_merge.specs.Records.{AreOffered}
use Rattle.kx_merge.proofs.merging.add_all.Given as goal

abbrev pub invariant-records : goal.invariant-records
invariant-records g l = (front : List (Offer g.row.R-Key.Denot g.row.R-Cell.Denot g.row.R-Value.Denot))
    → AreOffered l.mode g.R.Fields.form l.yielded front
    → Merges g.R.Fields.form g.R.Key.PartialEq.eq l.initial.records (Ok (tt {0})) l.records front
