use Rattle.std.proofs.Common.{Ok, take}
use Rattle.indexmap.specs.IndexMap.{keys}
use Rattle.kx_merge.specs.Gatherings.{MergesTable}
use Rattle.kx_merge.specs.Joins.{linked_to}
use Rattle.kx_merge.specs.Renewals.{held}
use Rattle.kx_merge.proofs.merging.add_again.Given as goal

abbrev pub invariant-keys : goal.invariant-keys
invariant-keys g l = MergesTable g.R.Fields.form g.R.Key.PartialEq.eq l.initial.records (Ok (tt {0})) l.records l.given (linked_to g.R.Key.PartialEq.eq g.R.Fields.moves l.link (held g.R.Key.PartialEq.eq (keys l.given) (take l.key-index l.renewed)))
