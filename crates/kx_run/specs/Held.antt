-- The keys that are down, in the order of their presses.
use Rattle.std.specs.Prelude.{◌≡◌, ◌≢◌, ℕ, ◌<◌, ◌≤◌, ◌==◌, Bool, true, false, not, List, All, AllPairs, filter, find, fold, sum_by, Option, pos, ℤ, ◌+ℤ◌}
use Rattle.std.specs.Int.{bit_at}
use Rattle.std.specs.Int.RustNames.{bit_or, unsigned_abs}
use Rattle.std.specs.List.{list_any}
use Rattle.kx_mods.specs.Mods.{mask}
use Rattle.kx_tables.specs.declared.rows.Action.{Action}
use Rattle.kx_tables.specs.declared.rows.Action.TheVariants.{SetMods, LatchMods, LockMods, SetGroup, LatchGroup, LockGroup}
use Rattle.kx_tables.specs.declared.rows.GroupChange.{GroupChange}
use Rattle.kx_tables.specs.declared.rows.GroupChange.TheVariants.{Absolute, Relative}
use Rattle.kx_run.specs.declared.held.HeldKey.{HeldKey}
use Rattle.kx_basics.specs.declared.limits.TheConstants.{CODES, MOST_GROUPS}

-- the modifiers that an action sets for as long as its key is down
abbrev pub held_mods : Action → ℕ
held_mods (SetMods mods clear_locks) = mask mods
held_mods (LatchMods mods clear_locks latch_to_lock) = mask mods
held_mods (LockMods mods locks unlocks) = mask mods
held_mods _ = 0

-- base modifiers: all that the held keys set
abbrev pub base_mods : List HeldKey → ℕ
base_mods keys = fold (λ mods key. bit_or mods (held_mods key.action)) 0 keys

-- a group after a change: an absolute one sets it, a relative one adds to it
abbrev pub group_after : GroupChange → ℤ → ℤ
group_after (Absolute group) old = pos group
group_after (Relative by) old = old +ℤ by

-- the base group after one more held key
abbrev pub base_group_after : Action → ℤ → ℤ
base_group_after (SetGroup change clear_locks) old = group_after change old
base_group_after (LatchGroup change clear_locks latch_to_lock) old = group_after change old
base_group_after _ old = old

-- whether an action changes the base group
abbrev pub is_group_held : Action → Bool
is_group_held (SetGroup change clear_locks) = true
is_group_held (LatchGroup change clear_locks latch_to_lock) = true
is_group_held _ = false

-- the base group: from 0 over the held keys in order
abbrev pub base_group : List HeldKey → ℤ
base_group keys = fold (λ old key. base_group_after key.action old) (pos 0) keys

-- whether a held key is the one of a code
abbrev pub is_at : ℕ → HeldKey → Bool
is_at code key = key.code == code

abbrev pub is_held : ℕ → List HeldKey → Bool
is_held code keys = list_any (is_at code) keys

abbrev pub held_at : ℕ → List HeldKey → Option HeldKey
held_at code keys = find (is_at code) keys

-- the held keys but the one of a code
abbrev pub other_keys : ℕ → List HeldKey → List HeldKey
other_keys code keys = filter (λ key. not (is_at code key)) keys

-- a key that saw another press
abbrev pub disturbed : HeldKey → HeldKey
disturbed key = record key { disturbed = true }

abbrev pub AreAllDisturbed : List HeldKey → Type 0
AreAllDisturbed keys = All (λ key. key.disturbed ≡ true) keys

-- how many held keys set a modifier, by its bit
abbrev pub count_of : ℕ → List HeldKey → ℕ
count_of bit keys = sum_by (λ key. bit_at (held_mods key.action) bit) keys

-- no code is held twice
abbrev pub AreDistinct : List HeldKey → Type 0
AreDistinct keys = AllPairs (λ a b. a.code ≢ b.code) keys

-- the number of an action that changes groups lies within 32 of 0
abbrev pub change_size : GroupChange → ℕ
change_size (Absolute group) = group
change_size (Relative by) = unsigned_abs by

abbrev pub action_size : Action → ℕ
action_size (SetGroup change clear_locks) = change_size change
action_size (LatchGroup change clear_locks latch_to_lock) = change_size change
action_size (LockGroup change) = change_size change
action_size _ = 0

-- what is true of the held keys after any number of events
pub record AreSound (keys : List HeldKey) : Type 0 where
  pub distinct : AreDistinct keys
  pub codes : All (λ key. key.code < CODES) keys
  pub sizes : All (λ key. action_size key.action ≤ MOST_GROUPS) keys
  pub masks : All (λ key. held_mods key.action < 256) keys
