-- The state of a keyboard, and what one press or release makes of it, by the rules of the X Keyboard Extension
-- where it has them. Sets of modifiers are masks.
use Rattle.std.specs.Prelude.{ℕ, ◌==◌, Bool, false, not, ◌&&◌, if◌then◌else◌, List, [], ◌∷◌, ◌++◌, map, Option, Some, None, pos, ℤ, ◌+ℤ◌, ◌-ℤ◌}
use Rattle.std.specs.Int.{int_rem_euclid}
use Rattle.std.specs.Int.RustNames.{bit_and, bit_or, unsigned_abs}
use Rattle.kx_mods.specs.Mods.{mask, mask_without}
use Rattle.kx_tables.specs.Keymap.{Keymap}
use Rattle.kx_tables.specs.declared.rows.Action.{Action}
use Rattle.kx_tables.specs.declared.rows.Action.TheVariants.{SetMods, LatchMods, LockMods, SetGroup, LatchGroup, LockGroup}
use Rattle.kx_tables.specs.declared.rows.Action.TheVariants.{None as NoAction}
use Rattle.kx_tables.specs.declared.rows.GroupChange.{GroupChange}
use Rattle.kx_tables.specs.declared.rows.GroupChange.TheVariants.{Absolute, Relative}
use Rattle.kx_run.specs.declared.held.HeldKey.{HeldKey}
use Rattle.kx_run.specs.declared.direction.Direction.{Direction}
use Rattle.kx_run.specs.declared.direction.Direction.TheVariants.{Down, Up}
use Rattle.kx_run.specs.Held.{base_mods, base_group, group_after, is_held, held_at, other_keys, disturbed}

-- the keys that are down, in press order; the latched and the locked modifiers; the latched and the locked group
pub record World : Type 0 where
  pub held : List HeldKey
  pub latched : ℕ
  pub locked : ℕ
  pub latched_group : ℕ
  pub locked_group : ℕ

-- nothing is held, latched or locked
abbrev pub opening : World
opening = record { held = []; latched = 0; locked = 0; latched_group = 0; locked_group = 0 }

-- a group taken modulo the number of groups: never negative
abbrev pub group_modulo : ℕ → ℤ → ℕ
group_modulo groups group = unsigned_abs (int_rem_euclid group (pos groups))

-- base, latched and locked together
abbrev pub effective_mods : World → ℕ
effective_mods world = bit_or (bit_or (base_mods world.held) world.latched) world.locked

abbrev pub effective_group : ℕ → World → ℕ
effective_group groups world = group_modulo groups (base_group world.held +ℤ pos world.latched_group +ℤ pos world.locked_group)

-- ---- A press

-- the modifiers of a locking action that are locked already
abbrev pub recorded_mods : Action → ℕ → ℕ
recorded_mods (LockMods mods locks unlocks) locked = bit_and (mask mods) locked
recorded_mods _ locked = 0

-- what a press does beyond holding its key: a lock takes effect at once, and a key of none of the six actions ends both latches
abbrev pub press_effect : ℕ → Action → World → World
press_effect groups NoAction world = record world { latched = 0; latched_group = 0 }
press_effect groups (LockMods mods locks unlocks) world = record world { locked = if locks then bit_or world.locked (mask mods) else world.locked }
press_effect groups (LockGroup change) world = record world { locked_group = group_modulo groups (group_after change (pos world.locked_group)) }
press_effect groups _ world = world

-- the key as it is held from its press on
abbrev pub held_key : ℕ → Action → ℕ → HeldKey
held_key code action locked = record { code = code; action = action; recorded = record { 0 = recorded_mods action locked }; disturbed = false }

-- a press of a key that is up: all held keys are disturbed, it is held, undisturbed, and then its action takes effect
abbrev pub pressed : ℕ → ℕ → Action → World → World
pressed groups code action world =
    press_effect groups action (record world { held = map disturbed world.held ++ held_key code action world.locked ∷ [] })

-- ---- A release

-- modifiers that were latched and not disturbed: those that are locked are unlocked and used up, if the action clears
-- locks; of the rest those that are latched already become locked, if it turns latches to locks; the others are latched
abbrev pub latch_mods : Bool → Bool → ℕ → World → World
latch_mods clear_locks latch_to_lock mods world =
    let cleared = if clear_locks then bit_and mods world.locked else 0 in
    let rest = mask_without mods cleared in
    let turned = if latch_to_lock then bit_and rest world.latched else 0 in
    record world {
      latched = bit_or (mask_without world.latched turned) (mask_without rest turned);
      locked = bit_or (mask_without world.locked cleared) turned;
    }

-- the number of a group latch: an absolute one counts from group 0
abbrev pub latch_number : GroupChange → ℤ
latch_number (Absolute group) = pos group
latch_number (Relative by) = by

-- a group that was latched and not disturbed: a locked group goes back to 0, if the action clears locks; else a latched
-- one moves to the lock by the number, if it turns latches to locks; else the number is added to the latched group
abbrev pub latch_group : ℕ → Bool → Bool → ℤ → World → World
latch_group groups clear_locks latch_to_lock number world =
    if clear_locks && not (world.locked_group == 0)
    then record world { locked_group = 0 }
    else if latch_to_lock && not (world.latched_group == 0)
    then record world {
      latched_group = group_modulo groups (pos world.latched_group -ℤ number);
      locked_group = group_modulo groups (pos world.locked_group +ℤ number);
    }
    else record world { latched_group = group_modulo groups (pos world.latched_group +ℤ number) }

-- what a release does beyond letting go of its key, by the action found at the press
abbrev pub release_effect : ℕ → Action → ℕ → Bool → World → World
release_effect groups (SetMods mods clear_locks) recorded is_disturbed world =
    if clear_locks && not is_disturbed then record world { locked = mask_without world.locked (mask mods) } else world
release_effect groups (LatchMods mods clear_locks latch_to_lock) recorded is_disturbed world =
    if is_disturbed then world else latch_mods clear_locks latch_to_lock (mask mods) world
release_effect groups (LockMods mods locks unlocks) recorded is_disturbed world =
    if unlocks then record world { locked = mask_without world.locked recorded } else world
release_effect groups (SetGroup change clear_locks) recorded is_disturbed world =
    if clear_locks && not is_disturbed then record world { locked_group = 0 } else world
release_effect groups (LatchGroup change clear_locks latch_to_lock) recorded is_disturbed world =
    if is_disturbed then world else latch_group groups clear_locks latch_to_lock (latch_number change) world
release_effect groups _ recorded is_disturbed world = world

-- a release of a held key: the key leaves the held ones, and then the action kept with it takes effect
abbrev pub let_go : ℕ → ℕ → Option HeldKey → World → World
let_go groups code None world = world
let_go groups code (Some key) world =
    release_effect groups key.action (mask key.recorded) key.disturbed
    (record world { held = other_keys code world.held })

abbrev pub released : ℕ → ℕ → World → World
released groups code world = let_go groups code (held_at code world.held) world

-- ---- Events

-- what an event does to a known key of an action: a press of a held key and a release of a key that is up change nothing
abbrev pub moved : ℕ → World → ℕ → Direction → Action → World
moved groups world code Down action = if is_held code world.held then world else pressed groups code action world
moved groups world code Up action = released groups code world

-- the action of a key in a state
abbrev pub action_in : Keymap → World → ℕ → Action
action_in keymap world code = (keymap.shown code (effective_group keymap.groups world) (effective_mods world)).action

-- a step: an unknown code changes nothing
abbrev pub step : Keymap → World → ℕ → Direction → World
step keymap world code direction = if keymap.known code then moved keymap.groups world code direction (action_in keymap world code) else world
