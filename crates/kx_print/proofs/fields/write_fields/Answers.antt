use Rattle.std.proofs.Common.{◌≡◌, ◌<◌, ◌∙◌, length, arith, [], codes}
use Rattle.kx_print.specs.Printed.{group_fields, groups_of}
use Rattle.kx_print.specs.Phrases.{numbered}
use Rattle.kx_print.proofs.RangeLemmas.{lead-none, lead-some, range_behind}
use Rattle.kx_print.proofs.Rows.{length-part}
use Rattle.kx_print.proofs.Writing.{◌⨟◌, rewritten}
use Rattle.kx_print.proofs.fields.write_fields.Goals as goal

pub returns-then-key-eq0 : goal.returns-then-key-eq0
returns-then-key-eq0 g c =
    let content = g.T.Rows.content c.args.tables.now in
    let groups = groups_of content c.args.key in
    let none : length groups ≡ 0 = length-part content.groups c.args.key.first_group c.args.key.groups c.requires.within ∙ c.if-key-eq0.true in
    rewritten (range_behind (numbered (group_fields content) 1 groups) [] c.args.key.range (lead-none content groups none)) (c.write_groups.ensures ⨟ c.write_range.ensures)

pub returns-else-key-eq0 : goal.returns-else-key-eq0
returns-else-key-eq0 g c =
    let content = g.T.Rows.content c.args.tables.now in
    let groups = groups_of content c.args.key in
    let some : 0 < length groups = omega (arith, length-part content.groups c.args.key.first_group c.args.key.groups c.requires.within, c.if-key-eq0.false) in
    rewritten (range_behind (numbered (group_fields content) 1 groups) (codes ",") c.args.key.range (lead-some content groups some)) (c.write_groups.ensures ⨟ c.write_range-else-key-eq0.ensures)
