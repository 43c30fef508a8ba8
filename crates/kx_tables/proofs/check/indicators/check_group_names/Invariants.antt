use Rattle.kx_tables.specs.SoFar.{GroupNamesAre}
use Rattle.kx_tables.proofs.check.indicators.check_group_names.Given as goal

abbrev pub invariant-loop-index : goal.invariant-loop-index
invariant-loop-index g l = GroupNamesAre (g.R.Rows.content l.rows) l.index l.names
