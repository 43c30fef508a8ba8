use Rattle.std.proofs.Common.{codes}
use Rattle.kx_print.specs.Printed.{cell_action}
use Rattle.kx_tables.specs.Content.{part}
use Rattle.kx_print.proofs.Listing.{listed_row}
use Rattle.kx_print.proofs.Rows.{at_part}
use Rattle.kx_print.proofs.Writing.{◌⨟◌}
use Rattle.kx_print.proofs.symbols.write_each_action.Goals as goal

pub loop-level-preserved : goal.loop-level-preserved
unfolding cell_action
loop-level-preserved g c =
    let content = g.T.Rows.content c.args.tables.now in
    let at = at_part content.cells c.args.cells.first c.args.cells.count c.loop-level.level c.from.result c.cell_row-cell.result c.loop-level-test.true c.from.ensures c.cell_row-cell.ensures in
    listed_row g.O.Out.written g.O.Out.failures (cell_action) (part content.cells c.args.cells.first c.args.cells.count) c.loop-level.level c.cell_row-cell.result (codes ", ") c.args.out.now c.loop-level.out c.write_action.new.out c.args.buffered.now c.loop-level.buffered c.write_action.new.buffered c.loop-level.before.now
    at c.loop-level.invariant (c.write.ensures ⨟ c.write_action.ensures)
