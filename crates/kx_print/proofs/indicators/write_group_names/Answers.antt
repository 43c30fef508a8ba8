use Rattle.std.proofs.Common.{◌≡◌, ◌+◌, Some, ap, sym, slice_get, get_or, length, arith, ◌<◌}
use Rattle.std.proofs.lemmas.Option.{slice_get-get_or}
use Rattle.kx_tables.specs.Content.{group_name}
use Rattle.kx_tables.specs.declared.tables.Counts.{Counts}
use Rattle.kx_tables.specs.declared.rows.GroupNameRow.{GroupNameRow}
use Rattle.kx_print.specs.Printed.{group_name_line, name_line}
use Rattle.kx_print.proofs.Rows.{numbered-more, of_row}
use Rattle.kx_print.proofs.Writing.{◌⨟◌, rewritten}
use Rattle.kx_print.proofs.indicators.write_group_names.Goals as goal

pub loop-index-preserved : goal.loop-index-preserved
loop-index-preserved g c =
    let content = g.T.Rows.content c.args.tables.now in
    let rows = content.group_names in
    let count = ap (λ (n : Counts). n.group_names) c.counts-index-end.ensures in
    let within : c.loop-index.index < length rows = omega (arith, count, c.loop-index-test.true) in
    let row : GroupNameRow = get_or rows c.loop-index.index (record { name_length = 0; first_name = 0 }) in
    let at : slice_get rows c.loop-index.index ≡ Some row = slice_get-get_or rows c.loop-index.index _ within in
    let name = of_row (group_name content) (slice_get rows c.loop-index.index) row c.group_name.result.now at c.group_name.ensures in
    rewritten (sym (numbered-more (group_name_line content) 1 rows c.loop-index.index row at))
    (c.loop-index.invariant ⨟ rewritten (ap (name_line (c.loop-index.index + 1)) name) c.write_group_name.ensures)
