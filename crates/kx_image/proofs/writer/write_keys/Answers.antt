use Rattle.kx_image.specs.Records.{key_bytes}
use Rattle.kx_image.proofs.Buffering.{table_more}
use Rattle.kx_image.proofs.writer.write_keys.Goals as goal

pub loop-index-preserved : goal.loop-index-preserved
loop-index-preserved g c =
    table_more g.O.Out.written g.O.Out.failures c.args.out.now c.loop-index.out c.write.new.out c.args.buffered.now c.loop-index.buffered c.write.new.self key_bytes (g.T.Rows.content c.args.tables.now).keys c.loop-index.index c.key_row.result c.key_bytes.result
    c.key_row.ensures c.key_bytes.ensures c.loop-index.invariant c.write.ensures
