use Rattle.std.proofs.Common.{codes}
use Rattle.kx_print.specs.Printed.{keysym_text}
use Rattle.kx_tables.specs.Content.{part}
use Rattle.kx_print.proofs.Listing.{listed_row}
use Rattle.kx_print.proofs.Rows.{at_part}
use Rattle.kx_print.proofs.Writing.{◌⨟◌}
use Rattle.kx_print.proofs.symbols.write_keysyms.Goals as goal

pub loop-index-preserved : goal.loop-index-preserved
loop-index-preserved g c =
    let content = g.T.Rows.content c.args.tables.now in
    let at = at_part content.keysyms c.args.cell.first_keysym c.args.cell.keysyms c.loop-index.index c.from.result c.keysym-keysym.result c.loop-index-test.true c.from.ensures c.keysym-keysym.ensures in
    listed_row g.O.Out.written g.O.Out.failures (keysym_text) (part content.keysyms c.args.cell.first_keysym c.args.cell.keysyms) c.loop-index.index c.keysym-keysym.result (codes ", ") c.args.out.now c.loop-index.out c.write_keysym.new.out c.args.buffered.now c.loop-index.buffered c.write_keysym.new.buffered c.loop-index.before.now
    at c.loop-index.invariant (c.write.ensures ⨟ c.write_keysym.ensures)
