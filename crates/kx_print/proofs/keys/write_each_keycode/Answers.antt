use Rattle.ks_core.proofs.BufferedOutLemmas.{writes_more}
use Rattle.std.proofs.Common.{ap, decimal, slice_get}
use Rattle.kx_tables.specs.Content.{key_name}
use Rattle.kx_print.specs.Phrases.{setting}
use Rattle.kx_print.specs.Printed.{bracketed, keycode_line}
use Rattle.kx_print.proofs.Rows.{of_row}
use Rattle.kx_print.proofs.Writing.{rewritten}
use Rattle.kx_print.proofs.keys.write_each_keycode.Goals as goal

pub loop-index-preserved : goal.loop-index-preserved
unfolding keycode_line
loop-index-preserved g c =
    let content = g.T.Rows.content c.args.tables.now in
    writes_more g.O.Out.written g.O.Out.failures c.args.out.now c.loop-index.out c.write_keycode.new.out c.args.buffered.now c.loop-index.buffered c.write_keycode.new.buffered (keycode_line content) content.keys c.loop-index.index c.key_row-code.result
    c.key_row-code.ensures c.loop-index.invariant (rewritten (ap (λ n. setting (bracketed n) (decimal c.key_row-code.result.code)) (of_row (key_name content) (slice_get content.keys c.loop-index.index) c.key_row-code.result c.key_name.result.now c.key_row-code.ensures c.key_name.ensures)) c.write_keycode.ensures)
