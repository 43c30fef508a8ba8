use Rattle.kx_image.specs.Records.{group_name_bytes}
use Rattle.kx_image.proofs.Buffering.{table_more}
use Rattle.kx_image.proofs.writer.write_group_names.Goals as goal

pub loop-index-preserved : goal.loop-index-preserved
loop-index-preserved g c =
    table_more g.O.Out.written g.O.Out.failures c.args.out.now c.loop-index.out c.write.new.out c.args.buffered.now c.loop-index.buffered c.write.new.self group_name_bytes (g.T.Rows.content c.args.tables.now).group_names c.loop-index.index c.group_name_row.result c.group_name_bytes.result
    c.group_name_row.ensures c.group_name_bytes.ensures c.loop-index.invariant c.write.ensures
