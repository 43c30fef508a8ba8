use Rattle.std.proofs.Common.{◌∷◌, ap}
use Rattle.ks_core.proofs.BufferedOutLemmas.{writes_more}
use Rattle.kx_tables.proofs.Bounds.{groups_within}
use Rattle.kx_tables.specs.Content.{key_name}
use Rattle.kx_print.specs.Printed.{fields_of}
use Rattle.kx_print.proofs.Writing.{rewritten}
use Rattle.kx_client_text.specs.Written.{key_text, key_with, repeat_field}
use Rattle.kx_client_text.proofs.symbols.write_each_key.Goals as goal

pub write_key-requires-clause-within : goal.write_key-requires-clause-within
write_key-requires-clause-within g c =
    groups_within (g.T.Rows.content c.args.tables.now) c.key_count-sound.ensures.sound c.loop-index.index c.key_row-row.result c.key_row-row.ensures

pub loop-index-preserved : goal.loop-index-preserved
unfolding key_text
loop-index-preserved g c =
    let content = g.T.Rows.content c.args.tables.now in
    let row = c.key_row-row.result in
    writes_more g.O.Out.written g.O.Out.failures c.args.out.now c.loop-index.out c.write_key.new.out c.args.buffered.now c.loop-index.buffered c.write_key.new.buffered (key_text content c.args.left.now) content.keys c.loop-index.index row
    c.key_row-row.ensures c.loop-index.invariant
    (rewritten (ap (λ repeats. key_with (key_name content row) (repeat_field repeats ∷ fields_of content row)) c.repeats.ensures) c.write_key.ensures)
