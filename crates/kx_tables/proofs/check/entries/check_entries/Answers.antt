use Rattle.std.proofs.Common.{arith, ap}
use Rattle.std.proofs.lemmas.Option.{slice_get_within}
use Rattle.kx_tables.proofs.Entering.{owners_more}
use Rattle.kx_tables.proofs.check.entries.check_entries.Goals as goal

pub loop-index-preserved : goal.loop-index-preserved
loop-index-preserved g c = owners_more (g.R.Rows.content c.args.rows.now) c.loop-index.index c.type_row-row.result c.type_row-row.ensures c.loop-index.invariant c.in_ok-check_entries_of.ensures.ok

pub returns-clause-ok : goal.returns-clause-ok
returns-clause-ok g c = λ i t at. c.loop-index.invariant i t (omega (arith, slice_get_within (g.R.Rows.content c.args.rows.now).types i t at, ap (λ k. k.types) c.counts-index-end.ensures)) at
