use Rattle.std.proofs.Common.{ℕ, ◌≡◌, ◌≤◌, ◌+◌, ◌++◌, ◌∷◌, [], fold, length, ap, sym, ◌∙◌, subst, arith, eq-or-lt_of_le, inl, inr}
use Rattle.std.proofs.lemmas.List.{length-append}
use Rattle.std.proofs.lemmas.List.Sums.{fold-append}
use Rattle.kx_builder.specs.Valid.{CellIsValid}
use Rattle.kx_builder.specs.Pushes.{last_groups, with_cell}
use Rattle.kx_builder.specs.Resolved.{Resolved}
use Rattle.kx_resolve.proofs.Growing.{cells_grow, groups_count}
use Rattle.kx_resolve.proofs.Steps.{cells_next, cells_none}
use Rattle.kx_keys.specs.Bounds.{last_cells}
use Rattle.kx_keys.specs.InterpretedKey.{InterpretedKey, LevelsAreValid, actions_of, cell_at, cells_at, given_to}
use Rattle.kx_resolve.proofs.keys.push_levels.Goals as goal

pub levels-init : goal.levels-init
levels-init c =
    let key = c.args.key.now in (
      ap (λ ds. fold with_cell c.args.builder.now ds) (sym (cells_none (given_to key) (actions_of key) c.args.group)),
      c.requires.some,
      ap length c.requires.bare,
      λ level less. absurd (omega (arith, less)),
    )

one_more : (key : InterpretedKey) (group level : ℕ) → LevelsAreValid key group level → CellIsValid (cell_at key group level) → LevelsAreValid key group (level + 1)
one_more key group level before here = λ l less.
    let upto : l ≤ level = omega (arith, less) in
    elim (eq-or-lt_of_le upto) [
      | inl same ↦ subst (λ n. CellIsValid (cell_at key group n)) (sym same) here
      | inr earlier ↦ before l earlier
    ]

pub levels-preserved : goal.levels-preserved
levels-preserved c =
    let key = c.args.key.now in
    let group = c.args.group in
    let level = c.levels.level in
    let d = cell_at key group level in
    let pushed = c.in_ok-push_level.ensures.pushed in
    let some = c.levels.invariant.1 in
    let count = c.levels.invariant.2 in
    let more : length (last_cells c.push_level.new.builder.keys) ≡ length (last_cells c.levels.builder.keys ++ d ∷ []) = ap (λ (r : Resolved). length (last_cells r.keys)) pushed ∙ ap length (cells_grow d c.levels.builder.keys some) in
    let still : length (last_groups c.push_level.new.builder.keys) ≡ length (last_groups c.levels.builder.keys) = ap (λ (r : Resolved). length (last_groups r.keys)) pushed ∙ groups_count d c.levels.builder.keys in (
      pushed ∙ ap (λ r. with_cell r d) c.levels.invariant.0 ∙ sym (fold-append with_cell c.args.builder.now (cells_at key group level) (d ∷ [])) ∙ ap (fold with_cell c.args.builder.now) (sym (cells_next (given_to key) (actions_of key) group level)),
      omega (arith, still, some),
      omega (arith, more, count, length-append (last_cells c.levels.builder.keys) (d ∷ [])),
      one_more key group level c.levels.invariant.3 c.in_ok-push_level.ensures.valid,
    )

pub push_level-requires-clause-some : goal.push_level-requires-clause-some
push_level-requires-clause-some c = c.levels.invariant.1

pub push_level-requires-clause-few : goal.push_level-requires-clause-few
push_level-requires-clause-few c = omega (arith, c.levels.invariant.2, c.levels-test.true, c.requires.few)
