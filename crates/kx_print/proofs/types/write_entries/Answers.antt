use Rattle.ks_core.proofs.BufferedOutLemmas.{writes_more}
use Rattle.kx_print.specs.Printed.{entries_of, entry_lines}
use Rattle.kx_print.proofs.Rows.{at_part}
use Rattle.kx_print.proofs.types.write_entries.Goals as goal

pub loop-index-preserved : goal.loop-index-preserved
loop-index-preserved g c =
    let content = g.T.Rows.content c.args.tables.now in
    let at = at_part content.entries c.args.row.first_entry c.args.row.entries c.loop-index.index c.from.result c.entry_row-entry.result c.loop-index-test.true c.from.ensures c.entry_row-entry.ensures in
    writes_more g.O.Out.written g.O.Out.failures c.args.out.now c.loop-index.out c.write_entry.new.out c.args.buffered.now c.loop-index.buffered c.write_entry.new.buffered entry_lines (entries_of content c.args.row) c.loop-index.index c.entry_row-entry.result
    at c.loop-index.invariant c.write_entry.ensures
