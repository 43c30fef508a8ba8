use Rattle.ks_core.proofs.BufferedOutLemmas.{writes_more}
use Rattle.kx_tables.proofs.Bounds.{groups_within}
use Rattle.kx_print.specs.Printed.{key_block}
use Rattle.kx_print.proofs.keys.write_each_key.Goals as goal

pub write_key-requires-clause-within : goal.write_key-requires-clause-within
write_key-requires-clause-within g c =
    groups_within (g.T.Rows.content c.args.tables.now) c.key_count-sound.ensures.sound c.loop-index.index c.key_row-row.result c.key_row-row.ensures

pub loop-index-preserved : goal.loop-index-preserved
loop-index-preserved g c =
    let content = g.T.Rows.content c.args.tables.now in
    writes_more g.O.Out.written g.O.Out.failures c.args.out.now c.loop-index.out c.write_key.new.out c.args.buffered.now c.loop-index.buffered c.write_key.new.buffered (key_block content) content.keys c.loop-index.index c.key_row-row.result
    c.key_row-row.ensures c.loop-index.invariant c.write_key.ensures
