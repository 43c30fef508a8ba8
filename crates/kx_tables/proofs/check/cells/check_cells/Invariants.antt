use Rattle.kx_tables.specs.SoFar.{CellsAre}
use Rattle.kx_tables.proofs.check.cells.check_cells.Given as goal

abbrev pub invariant-loop-index : goal.invariant-loop-index
invariant-loop-index g l = CellsAre (g.R.Rows.content l.rows) l.index l.keysyms
