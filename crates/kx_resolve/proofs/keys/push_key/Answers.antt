use Rattle.std.proofs.Common.{ℕ, ◌≡◌, ◌≤◌, ◌+◌, ◌++◌, ◌∷◌, [], List, fold, get_or, length, refl, ap, sym, ◌∙◌, subst, arith, eq-or-lt_of_le, inl, inr}
use Rattle.std.proofs.lemmas.List.{length-append}
use Rattle.std.proofs.lemmas.List.Sums.{fold-append}
use Rattle.std.proofs.lemmas.Option.{get_or_from_slice_get, slice_get_read}
use Rattle.kx_builder.specs.Pushes.{key_with_group, last_groups, with_group, with_key}
use Rattle.kx_builder.specs.Resolved.{Resolved, ResolvedKey}
use Rattle.kx_resolve.proofs.Growing.{bare_groups, change_length, groups_grow, key_then_groups}
use Rattle.kx_resolve.proofs.TypesInUse.{typed_next, typed_none}
use Rattle.kx_resolve.specs.Bare.{bare_key}
use Rattle.kx_keys.specs.Given.{given}
use Rattle.kx_keys.specs.InterpretedKey.{InterpretedKey, actions_of, given_to}
use Rattle.kx_resolve.specs.TypedKeys.{GroupIsValid, GroupsAreValid, group_typed, groups_typed}
use Rattle.kx_resolve.specs.TypesInUse.{TypeInUse, no_type}
use Rattle.kx_tables.specs.Sound.{RangeHolds}
use Rattle.kx_resolve.proofs.keys.push_key.Goals as goal

pub groups-init : goal.groups-init
groups-init c =
    let key = c.args.key.now in
    let old = c.args.builder.now in
    let range = c.range.ensures.value ∙ ap (λ k. (given k).range) c.record.ensures in
    let bare : ResolvedKey = bare_key c.args.code c.args.name.now key.modmap (given_to key).range in
    let pushed : c.push_key.new.self ≡ with_key old bare = c.in_ok-push_key.ensures.pushed ∙ (λ i. with_key old (bare_key c.args.code c.args.name.now (c.modmap.ensures i) (range i))) in
    let count : length c.push_key.new.self.keys ≡ length (old.keys ++ bare ∷ []) = ap (λ (r : Resolved). length r.keys) pushed in (
      pushed ∙ ap (fold with_group (with_key old bare)) (sym (typed_none (actions_of key) (given_to key) c.args.group_types.now)),
      omega (arith, count, length-append old.keys (bare ∷ [])),
      ap (λ (r : Resolved). length (last_groups r.keys)) pushed ∙ ap length (bare_groups old.keys bare),
      λ group less. absurd (omega (arith, less)),
    )

one_more : (key : InterpretedKey) (group_types : List TypeInUse) (group : ℕ) → GroupsAreValid key group_types group → GroupIsValid key group (get_or group_types group no_type) → GroupsAreValid key group_types (group + 1)
one_more key group_types group before here = λ h less.
    let upto : h ≤ group = omega (arith, less) in
    elim (eq-or-lt_of_le upto) [
      | inl same ↦ subst (λ n. GroupIsValid key n (get_or group_types n no_type)) (sym same) here
      | inr earlier ↦ before h earlier
    ]

pub groups-preserved : goal.groups-preserved
groups-preserved c =
    let key = c.args.key.now in
    let group_types = c.args.group_types.now in
    let group = c.groups.group in
    let g = group_typed key group (get_or group_types group no_type) in
    let bare : ResolvedKey = bare_key c.args.code c.args.name.now key.modmap (given_to key).range in
    let first = with_key c.args.builder.now bare in
    let here = sym (get_or_from_slice_get group_types group c.index-group_types-group.result no_type (slice_get_read group_types (length group_types) group c.index-group_types-group.result refl c.groups-test.true c.index-group_types-group.is)) in
    let pushed = c.in_ok-push_group.ensures.pushed ∙ ap (λ t. with_group c.groups.builder (group_typed key group t)) here in
    let still : length c.push_group.new.builder.keys ≡ length c.groups.builder.keys = ap (λ (r : Resolved). length r.keys) pushed ∙ change_length (key_with_group g) c.groups.builder.keys in
    let grown : length (last_groups c.push_group.new.builder.keys) ≡ length (last_groups c.groups.builder.keys ++ g ∷ []) = ap (λ (r : Resolved). length (last_groups r.keys)) pushed ∙ ap length (groups_grow g c.groups.builder.keys c.groups.invariant.1) in (
      pushed ∙ ap (λ r. with_group r g) c.groups.invariant.0 ∙ sym (fold-append with_group first (groups_typed key group_types group) (g ∷ [])) ∙ ap (fold with_group first) (sym (typed_next (actions_of key) (given_to key) group_types group)),
      omega (arith, still, c.groups.invariant.1),
      omega (arith, grown, c.groups.invariant.2, length-append (last_groups c.groups.builder.keys) (g ∷ [])),
      one_more key group_types group c.groups.invariant.3 (subst (GroupIsValid key group) here c.in_ok-push_group.ensures.valid),
    )

pub push_group-requires-clause-some : goal.push_group-requires-clause-some
push_group-requires-clause-some c = c.groups.invariant.1

pub push_group-requires-clause-few : goal.push_group-requires-clause-few
push_group-requires-clause-few c = omega (arith, c.groups.invariant.2, c.groups-test.true, c.requires.groups)

pub returns-clause-pushed : goal.returns-clause-pushed
returns-clause-pushed c =
    let key = c.args.key.now in
    let group_types = c.args.group_types.now in
    let all : c.groups.group ≡ length group_types = omega (arith, c.groups-test.false, c.groups.auto.group-end) in
    let bare : ResolvedKey = bare_key c.args.code c.args.name.now key.modmap (given_to key).range in
    c.groups.invariant.0
    ∙ key_then_groups c.args.builder.now bare (groups_typed key group_types c.groups.group)
    ∙ ap (λ n. with_key c.args.builder.now (record bare { groups = groups_typed key group_types n })) all

pub returns-clause-valid : goal.returns-clause-valid
returns-clause-valid c = λ group less. c.groups.invariant.3 group (omega (arith, less, c.groups-test.false))

pub returns-clause-range : goal.returns-clause-range
returns-clause-range c = subst RangeHolds (c.range.ensures.value ∙ ap (λ k. (given k).range) c.record.ensures) c.range.ensures.holds
