use Rattle.kx_tables.specs.SoFar.{EntriesAre}
use Rattle.kx_tables.proofs.check.entries.check_entries_of.Given as goal

abbrev pub invariant-loop-place : goal.invariant-loop-place
invariant-loop-place g l = EntriesAre (g.R.Rows.content l.rows) l.key_type l.place l.seen
