use Rattle.kx_image.specs.Records.{indicator_bytes}
use Rattle.kx_image.proofs.Buffering.{table_more}
use Rattle.kx_image.proofs.writer.write_indicators.Goals as goal

pub loop-index-preserved : goal.loop-index-preserved
loop-index-preserved g c =
    table_more g.O.Out.written g.O.Out.failures c.args.out.now c.loop-index.out c.write.new.out c.args.buffered.now c.loop-index.buffered c.write.new.self indicator_bytes (g.T.Rows.content c.args.tables.now).indicators c.loop-index.index c.indicator_row.result c.indicator_bytes.result
    c.indicator_row.ensures c.indicator_bytes.ensures c.loop-index.invariant c.write.ensures
