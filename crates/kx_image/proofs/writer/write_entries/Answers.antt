use Rattle.kx_image.specs.Records.{entry_bytes}
use Rattle.kx_image.proofs.Buffering.{table_more}
use Rattle.kx_image.proofs.writer.write_entries.Goals as goal

pub loop-index-preserved : goal.loop-index-preserved
loop-index-preserved g c =
    table_more g.O.Out.written g.O.Out.failures c.args.out.now c.loop-index.out c.write.new.out c.args.buffered.now c.loop-index.buffered c.write.new.self entry_bytes (g.T.Rows.content c.args.tables.now).entries c.loop-index.index c.entry_row.result c.entry_bytes.result
    c.entry_row.ensures c.entry_bytes.ensures c.loop-index.invariant c.write.ensures
