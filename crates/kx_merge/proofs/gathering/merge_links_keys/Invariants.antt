use Rattle.std.proofs.Common.{take}
use Rattle.kx_merge.specs.Joins.{TakesUpBody, parts}
use Rattle.kx_merge.proofs.gathering.merge_links_keys.Given as goal

abbrev pub invariant-links : goal.invariant-links
invariant-links g l = TakesUpBody g.row.R-Defaults.Denot g.R.Fields.form g.R.Key.PartialEq.eq g.R.Fields.moves l.done l.renewed l.initial.records l.records (λ offers. offers) (parts (take l.link-index l.links))
