use Rattle.ks_core.proofs.BufferedOutLemmas.{writes_more}
use Rattle.std.proofs.Common.{◌++◌, ap, codes, slice_get}
use Rattle.kx_tables.specs.Content.{indicator_name}
use Rattle.kx_print.specs.Phrases.{block, quoted}
use Rattle.kx_print.specs.Printed.{indicator_block, indicator_map_lines}
use Rattle.kx_print.proofs.Rows.{of_row}
use Rattle.kx_print.proofs.Writing.{rewritten}
use Rattle.kx_print.proofs.indicators.write_each_indicator.Goals as goal

pub loop-index-preserved : goal.loop-index-preserved
unfolding indicator_block
loop-index-preserved g c =
    let content = g.T.Rows.content c.args.tables.now in
    writes_more g.O.Out.written g.O.Out.failures c.args.out.now c.loop-index.out c.write_indicator.new.out c.args.buffered.now c.loop-index.buffered c.write_indicator.new.buffered (indicator_block content) content.indicators c.loop-index.index c.indicator_row-row.result
    c.indicator_row-row.ensures c.loop-index.invariant (rewritten (ap (λ n. block (codes "indicator " ++ quoted n) (indicator_map_lines c.indicator_row-row.result)) (of_row (indicator_name content) (slice_get content.indicators c.loop-index.index) c.indicator_row-row.result c.indicator_name.result.now c.indicator_row-row.ensures c.indicator_name.ensures)) c.write_indicator.ensures)
