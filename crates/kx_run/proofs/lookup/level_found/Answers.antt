use Rattle.std.proofs.Common.{arith}
use Rattle.kx_tables.proofs.Bounds.{keysyms_within}
use Rattle.kx_tables.specs.Sound.{CellHolds}
use Rattle.kx_run.proofs.TableReads.{action_size-holds}
use Rattle.kx_run.proofs.lookup.level_found.Goals as goal

pub overflow_add-group : goal.overflow_add-group
overflow_add-group g c =
    record { fits = omega (arith, c.from.ensures, c.requires.within, c.requires.sound.counts.cells_fit) }

pub returns-clause-readable : goal.returns-clause-readable
returns-clause-readable g c =
    let content = g.T.Rows.content c.args.tables.now in
    let holds : CellHolds content _ c.cell_row-cell.result = c.requires.sound.cells _ c.cell_row-cell.result c.cell_row-cell.ensures in
    record {
      few = holds.keysyms;
      within = keysyms_within content c.requires.sound _ c.cell_row-cell.result c.cell_row-cell.ensures;
      fits = c.requires.sound.counts.keysyms_fit;
      size = action_size-holds c.cell_row-cell.result.action holds.action;
    }
