use Rattle.kx_image.specs.Records.{cell_bytes}
use Rattle.kx_image.proofs.Buffering.{table_more}
use Rattle.kx_image.proofs.writer.write_cells.Goals as goal

pub loop-index-preserved : goal.loop-index-preserved
loop-index-preserved g c =
    table_more g.O.Out.written g.O.Out.failures c.args.out.now c.loop-index.out c.write.new.out c.args.buffered.now c.loop-index.buffered c.write.new.self cell_bytes (g.T.Rows.content c.args.tables.now).cells c.loop-index.index c.cell_row.result c.cell_bytes.result
    c.cell_row.ensures c.cell_bytes.ensures c.loop-index.invariant c.write.ensures
