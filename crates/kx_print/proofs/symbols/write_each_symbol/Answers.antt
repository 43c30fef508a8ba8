use Rattle.std.proofs.Common.{codes}
use Rattle.kx_tables.proofs.Bounds.{keysyms_within}
use Rattle.kx_print.specs.Printed.{cell_symbols}
use Rattle.kx_tables.specs.Content.{part}
use Rattle.kx_print.proofs.Listing.{listed_row}
use Rattle.kx_print.proofs.Rows.{at_part}
use Rattle.kx_print.proofs.Writing.{◌⨟◌}
use Rattle.kx_print.proofs.symbols.write_each_symbol.Goals as goal

pub write_cell-requires-clause-within : goal.write_cell-requires-clause-within
write_cell-requires-clause-within g c =
    keysyms_within (g.T.Rows.content c.args.tables.now) c.requires.sound _ c.cell_row-cell.result c.cell_row-cell.ensures

pub loop-level-preserved : goal.loop-level-preserved
loop-level-preserved g c =
    let content = g.T.Rows.content c.args.tables.now in
    let at = at_part content.cells c.args.cells.first c.args.cells.count c.loop-level.level c.from.result c.cell_row-cell.result c.loop-level-test.true c.from.ensures c.cell_row-cell.ensures in
    listed_row g.O.Out.written g.O.Out.failures (cell_symbols content) (part content.cells c.args.cells.first c.args.cells.count) c.loop-level.level c.cell_row-cell.result (codes ", ") c.args.out.now c.loop-level.out c.write_cell.new.out c.args.buffered.now c.loop-level.buffered c.write_cell.new.buffered c.loop-level.before.now
    at c.loop-level.invariant (c.write.ensures ⨟ c.write_cell.ensures)
