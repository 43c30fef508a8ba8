use Rattle.kx_tables.specs.SoFar.{TypesAre}
use Rattle.kx_tables.proofs.check.types.check_types.Given as goal

abbrev pub invariant-loop-index : goal.invariant-loop-index
invariant-loop-index g l = TypesAre (g.R.Rows.content l.rows) l.index l.entries l.names
