-- Events after which the state is shown as before.
use Rattle.std.proofs.Common.{◌≡◌, ℕ, ◌+ℤ◌, ℤ, pos, List, [], ◌∷◌, ◌++◌, ◌∙◌, Some, ap, map, sym, bit_or}
use Rattle.std.specs.Int.Bits.{or_zero_r}
use Rattle.kx_mods.specs.Mods.{mask}
use Rattle.kx_tables.specs.declared.rows.Action.TheVariants as actions
use Rattle.kx_run.specs.declared.held.HeldKey.{HeldKey}
use Rattle.kx_run.specs.Held.{AreDistinct, base_group, base_mods, disturbed, held_at, held_mods, is_group_held, other_keys}
use Rattle.kx_run.specs.Replies.{Status, status_of}
use Rattle.kx_run.specs.World.{World, group_modulo, held_key, let_go, pressed, release_effect, released}
use Rattle.kx_run.proofs.HeldLists.{base_group-disturbed, base_group-push, base_mods-disturbed, base_mods-push, group_left, mods_left, place_in, stands_at}

-- the state with other base modifiers and another base group
abbrev shown_with : ℕ → World → ℕ → ℤ → Status
shown_with groups world mods group =
    record {
      base = mods;
      latched = world.latched;
      locked = world.locked;
      base_group = group;
      latched_group = world.latched_group;
      locked_group = world.locked_group;
      effective_group = group_modulo groups (group +ℤ pos world.latched_group +ℤ pos world.locked_group);
    }

held_still : (groups : ℕ) (world : World) (held : List HeldKey) → base_mods held ≡ base_mods world.held → base_group held ≡ base_group world.held → status_of groups (record world { held = held }) ≡ status_of groups world
held_still groups world held mods group =
    ap (λ m. shown_with groups world m (base_group held)) mods ∙ ap (shown_with groups world (base_mods world.held)) group

-- a key without an action is pressed, and nothing is latched
pub pressed_still : (groups code : ℕ) (world : World) → world.latched ≡ 0 → world.latched_group ≡ 0 → status_of groups (pressed groups code actions.None world) ≡ status_of groups world
pressed_still groups code world latched latched_group =
    let key = held_key code actions.None world.locked in
    let held = map disturbed world.held ++ key ∷ [] in
    let mods : base_mods held ≡ base_mods world.held = base_mods-push (map disturbed world.held) key ∙ ap (λ m. bit_or m 0) (base_mods-disturbed world.held) ∙ or_zero_r (base_mods world.held) in
    let group : base_group held ≡ base_group world.held = base_group-push (map disturbed world.held) key ∙ base_group-disturbed world.held in
    ap (λ n. status_of groups (record world { held = held; latched = n; latched_group = 0 })) (sym latched)
    ∙ ap (λ n. status_of groups (record world { held = held; latched_group = n })) (sym latched_group)
    ∙ held_still groups world held mods group

-- a key without an action is let go
pub released_still : (groups code : ℕ) (world : World) (key : HeldKey) → AreDistinct world.held → held_at code world.held ≡ Some key → key.action ≡ actions.None → status_of groups (released groups code world) ≡ status_of groups world
released_still groups code world key distinct found plain =
    let at = stands_at code world.held key distinct found in
    let place = place_in code world.held in
    let mods : base_mods (other_keys code world.held) ≡ base_mods world.held = ap base_mods at.left ∙ mods_left world.held place key at.within at.read (ap held_mods plain) in
    let group : base_group (other_keys code world.held) ≡ base_group world.held = ap base_group at.left ∙ group_left world.held place key at.within at.read (ap is_group_held plain) in
    let left : World = record world { held = other_keys code world.held } in
    ap (λ o. status_of groups (let_go groups code o world)) found
    ∙ ap (λ a. status_of groups (release_effect groups a (mask key.recorded) key.disturbed left)) plain
    ∙ held_still groups world (other_keys code world.held) mods group
