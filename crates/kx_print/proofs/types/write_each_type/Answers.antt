use Rattle.ks_core.proofs.BufferedOutLemmas.{writes_more}
use Rattle.kx_tables.proofs.Bounds.{entries_within}
use Rattle.kx_print.specs.Printed.{type_block}
use Rattle.kx_print.proofs.types.write_each_type.Goals as goal

pub write_type-requires-clause-entries : goal.write_type-requires-clause-entries
write_type-requires-clause-entries g c =
    entries_within (g.T.Rows.content c.args.tables.now) c.key_count-sound.ensures.sound c.loop-index.index c.type_row-row.result c.type_row-row.ensures

pub loop-index-preserved : goal.loop-index-preserved
loop-index-preserved g c =
    let content = g.T.Rows.content c.args.tables.now in
    writes_more g.O.Out.written g.O.Out.failures c.args.out.now c.loop-index.out c.write_type.new.out c.args.buffered.now c.loop-index.buffered c.write_type.new.buffered (type_block content) content.types c.loop-index.index c.type_row-row.result
    c.type_row-row.ensures c.loop-index.invariant c.write_type.ensures
