use Rattle.kx_tables.specs.SoFar.{IndicatorsAre}
use Rattle.kx_tables.proofs.check.indicators.check_indicators.Given as goal

abbrev pub invariant-loop-index : goal.invariant-loop-index
invariant-loop-index g l = IndicatorsAre (g.R.Rows.content l.rows) l.index l.names
