use Rattle.std.proofs.Common.{◌≡◌, ◌++◌, ◌∷◌, [], fold, length, ap, subst, ◌∙◌, arith}
use Rattle.std.proofs.lemmas.List.{length-append}
use Rattle.kx_builder.specs.Pushes.{last_groups, with_cell, with_group}
use Rattle.kx_builder.specs.Resolved.{Resolved}
use Rattle.kx_resolve.proofs.Growing.{group_then_cells, groups_grow, new_cells}
use Rattle.kx_resolve.specs.Bare.{bare_group}
use Rattle.kx_keys.specs.Bounds.{last_cells}
use Rattle.kx_keys.specs.Given.{given}
use Rattle.kx_keys.specs.GroupTypes.{content_group}
use Rattle.kx_keys.specs.InterpretedKey.{LevelsAreValid, cells_at}
use Rattle.kx_resolve.proofs.keys.push_group.Goals as goal

pub push_levels-requires-clause-some : goal.push_levels-requires-clause-some
push_levels-requires-clause-some c =
    let old = c.args.builder.now.keys in
    let bare = bare_group c.place.result in
    let grown : length (last_groups c.push_group.new.self.keys) ≡ length (last_groups old ++ bare ∷ []) = ap (λ (r : Resolved). length (last_groups r.keys)) (c.in_ok-push_group.ensures.pushed ∙ ap (λ r. with_group r bare) c.note_group.ensures) ∙ ap length (groups_grow bare old c.requires.some) in
    omega (arith, grown, length-append (last_groups old) (bare ∷ []))

pub push_levels-requires-clause-bare : goal.push_levels-requires-clause-bare
push_levels-requires-clause-bare c =
    let bare = bare_group c.place.result in
    ap (λ (r : Resolved). last_cells r.keys) (c.in_ok-push_group.ensures.pushed ∙ ap (λ r. with_group r bare) c.note_group.ensures) ∙ new_cells bare c.args.builder.now.keys c.requires.some

pub returns-clause-pushed : goal.returns-clause-pushed
returns-clause-pushed c =
    let key = c.args.key.now in
    let bare = bare_group c.place.result in
    let content = c.content_group-content.ensures ∙ ap (λ k. content_group (given k) c.args.group) c.record.ensures in
    let cells = cells_at key c.content_group-content.result c.levels.result in
    c.in_ok-push_levels.ensures.pushed
    ∙ ap (λ r. fold with_cell r cells) (c.in_ok-push_group.ensures.pushed ∙ ap (λ r. with_group r bare) c.note_group.ensures)
    ∙ group_then_cells c.args.builder.now bare cells
    ∙ (λ i. with_group c.args.builder.now (record { key_type = c.place.ensures i; cells = cells_at key (content i) (c.levels.ensures.value i) }))

pub returns-clause-valid : goal.returns-clause-valid
returns-clause-valid c =
    let key = c.args.key.now in
    let content = c.content_group-content.ensures ∙ ap (λ k. content_group (given k) c.args.group) c.record.ensures in
    subst (λ n. LevelsAreValid key n c.args.group_type.now.levels) content (subst (LevelsAreValid key c.content_group-content.result) c.levels.ensures.value c.in_ok-push_levels.ensures.valid)
