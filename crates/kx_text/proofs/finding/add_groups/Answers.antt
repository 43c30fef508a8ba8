use Rattle.std.proofs.Common.{◌≡◌, ◌+◌, ◌<◌, inl, inr, Some, slice_get, arith, rules}
use Rattle.std.proofs.lemmas.Bool.{cases_lt}
use Rattle.kx_tables.proofs.Bounds.{cells_within, groups_within, few_groups}
use Rattle.kx_text.proofs.FoundSpots.{gives_level, level_gives}
use Rattle.kx_text.proofs.finding.add_groups.Goals as goal

pub group_row-at-requires : goal.group_row-at-requires
group_row-at-requires g c =
    let within = groups_within (g.T.Rows.content c.args.tables.now) c.key_count-sound.ensures.sound c.args.key c.key_row-row.result c.key_row-row.ensures in
    omega (arith, within, c.from.ensures, c.loop-group-test.true)

pub overflow_add-row : goal.overflow_add-row
overflow_add-row g c =
    let content = g.T.Rows.content c.args.tables.now in
    let within = groups_within content c.key_count-sound.ensures.sound c.args.key c.key_row-row.result c.key_row-row.ensures in
    record { fits = omega (arith, few_groups content c.key_count-sound.ensures.sound, within, c.from.ensures, c.loop-group-test.true) }

pub add_levels-requires-clause-levels : goal.add_levels-requires-clause-levels
add_levels-requires-clause-levels g c =
    cells_within (g.T.Rows.content c.args.tables.now) c.key_count-sound.ensures.sound _ c.group_row-at.result c.type_row-levels.result c.group_row-at.ensures c.type_row-levels.ensures

pub loop-group-preserved : goal.loop-group-preserved
loop-group-preserved g c =
    let content = g.T.Rows.content c.args.tables.now in
    let key = c.key_row-row.result in
    let row = c.group_row-at.result in
    let group = c.loop-group.group in
    let below : group < key.groups = search rules in
    let has_row : slice_get content.groups (key.first_group + group) ≡ Some row = search rules in
    let steps = c.in_ok-add_levels.ensures in
    record {
      kept = λ s at. steps.kept s (c.loop-group.invariant.kept s at);
      each = λ s at. elim (steps.each s at) [
        | inl before ↦ c.loop-group.invariant.each s before
        | inr here ↦ inr (level_gives content c.args.keysyms.now key row c.type_row-levels.result c.args.key group s c.key_row-row.ensures below has_row c.type_row-levels.ensures here)
      ];
      all = λ s is_key within gives. elim (cases_lt s.group group) [
        | inl less ↦ steps.kept s (c.loop-group.invariant.all s is_key less gives)
        | inr more ↦
            let is_group : s.group ≡ group = omega (arith, more, within) in
            steps.all s (gives_level content c.args.keysyms.now key row c.type_row-levels.result c.args.key group s c.key_row-row.ensures has_row c.type_row-levels.ensures is_key is_group gives)
      ];
    }
