use Rattle.std.proofs.Common.{refl}
use Rattle.kx_tables.proofs.Growing.{types_more}
use Rattle.kx_tables.proofs.check.types.check_types.Goals as goal

pub loop-index-preserved : goal.loop-index-preserved
loop-index-preserved g c = let h = c.if-not-is_numbered.ensures in types_more _ _ _ _ _ _ c.type_row-row.result c.type_row-row.ensures c.loop-index.invariant (h.0 refl) c.from-entries.ensures c.from-names.ensures
