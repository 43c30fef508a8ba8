use Rattle.kx_image.specs.Records.{keysym_bytes}
use Rattle.kx_image.proofs.Buffering.{table_more}
use Rattle.kx_image.proofs.writer.write_keysyms.Goals as goal

pub loop-index-preserved : goal.loop-index-preserved
loop-index-preserved g c =
    table_more g.O.Out.written g.O.Out.failures c.args.out.now c.loop-index.out c.write.new.out c.args.buffered.now c.loop-index.buffered c.write.new.self keysym_bytes (g.T.Rows.content c.args.tables.now).keysyms c.loop-index.index c.keysym.result c.keysym_bytes.result
    c.keysym.ensures c.keysym_bytes.ensures c.loop-index.invariant c.write.ensures
