use Rattle.kx_image.specs.Records.{group_bytes}
use Rattle.kx_image.proofs.Buffering.{table_more}
use Rattle.kx_image.proofs.writer.write_groups.Goals as goal

pub loop-index-preserved : goal.loop-index-preserved
loop-index-preserved g c =
    table_more g.O.Out.written g.O.Out.failures c.args.out.now c.loop-index.out c.write.new.out c.args.buffered.now c.loop-index.buffered c.write.new.self group_bytes (g.T.Rows.content c.args.tables.now).groups c.loop-index.index c.group_row.result c.group_bytes.result
    c.group_row.ensures c.group_bytes.ensures c.loop-index.invariant c.write.ensures
