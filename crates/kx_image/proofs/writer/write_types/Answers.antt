use Rattle.kx_image.specs.Records.{type_bytes}
use Rattle.kx_image.proofs.Buffering.{table_more}
use Rattle.kx_image.proofs.writer.write_types.Goals as goal

pub loop-index-preserved : goal.loop-index-preserved
loop-index-preserved g c =
    table_more g.O.Out.written g.O.Out.failures c.args.out.now c.loop-index.out c.write.new.out c.args.buffered.now c.loop-index.buffered c.write.new.self type_bytes (g.T.Rows.content c.args.tables.now).types c.loop-index.index c.type_row.result c.type_bytes.result
    c.type_row.ensures c.type_bytes.ensures c.loop-index.invariant c.write.ensures
