use Rattle.kx_tables.specs.SoFar.{EachBelow}
use Rattle.kx_tables.specs.Sound.{EntriesHold}
use Rattle.kx_tables.proofs.check.entries.check_entries.Given as goal

abbrev pub invariant-loop-index : goal.invariant-loop-index
invariant-loop-index g l = EachBelow (g.R.Rows.content l.rows).types (EntriesHold (g.R.Rows.content l.rows)) l.index
