use Rattle.std.proofs.Common.{◌++◌, ◌+◌, ◌∙◌, codes, map, take, ap, arith, refl}
use Rattle.std.proofs.lemmas.List.{map-append}
use Rattle.kx_tables.proofs.Fits.{sound_fits}
use Rattle.kx_print.specs.Phrases.{joined, numbered}
use Rattle.kx_print.specs.Printed.{group_fields, groups_of, on_new_line}
use Rattle.kx_print.proofs.RangeLemmas.{levels_within}
use Rattle.kx_print.proofs.Listing.{listed_rows}
use Rattle.kx_print.proofs.Rows.{at_part, numbered-more}
use Rattle.kx_print.proofs.Writing.{◌⨟◌, rewritten}
use Rattle.kx_print.proofs.fields.write_groups.Goals as goal

pub overflow_add-key : goal.overflow_add-key
overflow_add-key g c =
    let fits = sound_fits (g.T.Rows.content c.args.tables.now) c.requires.sound in
    record { fits = omega (arith, fits.groups, c.requires.within, c.from.ensures, c.loop-index-test.true) }

pub write_group-requires-clause-within : goal.write_group-requires-clause-within
write_group-requires-clause-within g c =
    levels_within (g.T.Rows.content c.args.tables.now) _ c.group_row-group.result c.requires.sound c.group_row-group.ensures

pub loop-index-preserved : goal.loop-index-preserved
unfolding group_fields
loop-index-preserved g c =
    let content = g.T.Rows.content c.args.tables.now in
    let fields = group_fields content in
    let groups = groups_of content c.args.key in
    let i = c.loop-index.index in
    let group = c.group_row-group.result in
    let at = at_part content.groups c.args.key.first_group c.args.key.groups i c.from.result group c.loop-index-test.true c.from.ensures c.group_row-group.ensures in
    listed_rows g.O.Out.written g.O.Out.failures (codes ",") c.args.out.now c.loop-index.out c.write_group.new.out c.args.buffered.now c.loop-index.buffered c.write_group.new.buffered c.loop-index.before.now
    (map on_new_line (numbered fields 1 (take i groups))) (map on_new_line (fields (i + 1) group)) (map on_new_line (numbered fields 1 (take (i + 1) groups))) _ _ refl
    (ap (map on_new_line) (numbered-more fields 1 groups i group at) ∙ map-append on_new_line (numbered fields 1 (take i groups)) (fields (i + 1) group))
    c.loop-index.invariant
    (rewritten (ap (λ n. c.loop-index.before.now ++ joined (codes ",") (map on_new_line (fields (n + 1) group))) c.from-in-loop-index.ensures) (c.write.ensures ⨟ c.write_group.ensures))
