use Rattle.std.proofs.Common.{refl}
use Rattle.kx_tables.proofs.Growing.{indicators_more}
use Rattle.kx_tables.proofs.check.indicators.check_indicators.Goals as goal

pub loop-index-preserved : goal.loop-index-preserved
loop-index-preserved g c = let h = c.if-not-is_numbered.ensures in indicators_more _ _ _ _ c.indicator_row-row.result c.indicator_row-row.ensures c.loop-index.invariant (h.0 refl) c.from-names.ensures
