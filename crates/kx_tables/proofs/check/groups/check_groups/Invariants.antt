use Rattle.kx_tables.specs.SoFar.{GroupsAre}
use Rattle.kx_tables.proofs.check.groups.check_groups.Given as goal

abbrev pub invariant-loop-index : goal.invariant-loop-index
invariant-loop-index g l = GroupsAre (g.R.Rows.content l.rows) l.index l.used l.cells
