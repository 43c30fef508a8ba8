use Rattle.std.proofs.Common.{refl}
use Rattle.kx_tables.proofs.Growing.{cells_more}
use Rattle.kx_tables.proofs.check.cells.check_cells.Goals as goal

pub loop-index-preserved : goal.loop-index-preserved
loop-index-preserved g c = let h = c.if-not-is_numbered.ensures in cells_more _ _ _ _ c.cell_row-row.result c.cell_row-row.ensures c.loop-index.invariant (h.0 refl) c.from-keysyms.ensures
