-- The records of an image, byte for byte: numbers are little-endian. `x_bytes` are a row's bytes, and `x_of` the row that so many bytes tell.
use Rattle.std.specs.Prelude.{ℕ, ℤ, pos, negsuc, Bool, not, List, [], ◌∷◌, ◌++◌, ◌==◌, ◌+◌, ◌-◌, cond, nat_lt, slice_index}
use Rattle.std.specs.Int.{w16, w32, to_le_bytes, from_le_bytes}
use Rattle.std.specs.Int.RustNames.{bit_and}
use Rattle.kx_mods.specs.Mods.{mask}
use Rattle.kx_tables.specs.States.{state_bits}
use Rattle.kx_tables.specs.declared.rows.Action.{Action}
use Rattle.kx_tables.specs.declared.rows.Action.TheVariants as actions
use Rattle.kx_tables.specs.declared.rows.CellRow.{CellRow}
use Rattle.kx_tables.specs.declared.rows.EntryRow.{EntryRow}
use Rattle.kx_tables.specs.declared.rows.GroupChange.{GroupChange}
use Rattle.kx_tables.specs.declared.rows.GroupChange.TheVariants.{Absolute, Relative}
use Rattle.kx_tables.specs.declared.rows.GroupNameRow.{GroupNameRow}
use Rattle.kx_tables.specs.declared.rows.GroupRow.{GroupRow}
use Rattle.kx_tables.specs.declared.rows.IndicatorRow.{IndicatorRow}
use Rattle.kx_tables.specs.declared.rows.KeyRow.{KeyRow}
use Rattle.kx_tables.specs.declared.rows.Range.{Range}
use Rattle.kx_tables.specs.declared.rows.Range.TheVariants.{Wrap, Clamp, Redirect}
use Rattle.kx_tables.specs.declared.rows.TypeRow.{TypeRow}

-- a number in two bytes or four
abbrev pub two : ℕ → List ℕ
two n = to_le_bytes w16 n

abbrev pub four : ℕ → List ℕ
four n = to_le_bytes w32 n

-- the number in the two bytes or four at a place
abbrev pub two_at : List ℕ → ℕ → ℕ
two_at s i = from_le_bytes w16 (slice_index s i ∷ slice_index s (i + 1) ∷ [])

abbrev pub four_at : List ℕ → ℕ → ℕ
four_at s i = from_le_bytes w32 (slice_index s i ∷ slice_index s (i + 1) ∷ slice_index s (i + 2) ∷ slice_index s (i + 3) ∷ [])

-- type, 16 bytes: mods, levels, entries, name length, zero, first entry, first name
abbrev pub type_bytes : TypeRow → List ℕ
type_bytes t = mask t.mods ∷ t.levels ∷ two t.entries ++ two t.name_length ++ (0 ∷ 0 ∷ []) ++ four t.first_entry ++ four t.first_name

abbrev pub type_of : List ℕ → TypeRow
type_of s = record {
  mods = record { 0 = slice_index s 0 };
  levels = slice_index s 1;
  entries = two_at s 2;
  name_length = two_at s 4;
  first_entry = four_at s 8;
  first_name = four_at s 12;
}

-- entry, 4 bytes: mods, level (from 1), preserve, zero
abbrev pub entry_bytes : EntryRow → List ℕ
entry_bytes e = mask e.mods ∷ e.level ∷ mask e.preserve ∷ 0 ∷ []

abbrev pub entry_of : List ℕ → EntryRow
entry_of s = record { mods = record { 0 = slice_index s 0 }; level = slice_index s 1; preserve = record { 0 = slice_index s 2 } }

-- a range: 0 wrap, 1 clamp, 2 redirect; and the group that it redirects to, else 0
abbrev pub range_code : Range → ℕ
range_code Wrap = 0
range_code Clamp = 1
range_code (Redirect r) = 2

abbrev pub redirect_of : Range → ℕ
redirect_of Wrap = 0
redirect_of Clamp = 0
redirect_of (Redirect r) = r

abbrev pub range_of : ℕ → ℕ → Range
range_of code r = cond (code == 1) Clamp (cond (code == 2) (Redirect r) Wrap)

-- key, 16 bytes: code, modifier map, range, redirect, groups, name length, first name, first group
abbrev pub key_bytes : KeyRow → List ℕ
key_bytes k = two k.code ++ (mask k.modmap ∷ range_code k.range ∷ redirect_of k.range ∷ k.groups ∷ []) ++ two k.name_length ++ four k.first_name ++ four k.first_group

abbrev pub key_of : List ℕ → KeyRow
key_of s = record {
  code = two_at s 0;
  modmap = record { 0 = slice_index s 2 };
  range = range_of (slice_index s 3) (slice_index s 4);
  groups = slice_index s 5;
  name_length = two_at s 6;
  first_name = four_at s 8;
  first_group = four_at s 12;
}

-- group, 8 bytes: type, zero, first cell
abbrev pub group_bytes : GroupRow → List ℕ
group_bytes g = two g.key_type ++ (0 ∷ 0 ∷ []) ++ four g.first_cell

abbrev pub group_of : List ℕ → GroupRow
group_of s = record { key_type = two_at s 0; first_cell = four_at s 4 }

-- A cell's action: 0 none, 1 SetMods, 2 LatchMods, 3 LockMods, 4 SetGroup, 5 LatchGroup, 6 LockGroup.
abbrev pub action_code : Action → ℕ
action_code actions.None = 0
action_code (actions.SetMods m clear) = 1
action_code (actions.LatchMods m clear latch) = 2
action_code (actions.LockMods m locks unlocks) = 3
action_code (actions.SetGroup g clear) = 4
action_code (actions.LatchGroup g clear latch) = 5
action_code (actions.LockGroup g) = 6

abbrev pub flag : Bool → ℕ → ℕ
flag set value = cond set value 0

abbrev pub absolute_flag : GroupChange → ℕ
absolute_flag (Absolute g) = 16
absolute_flag (Relative d) = 0

-- Flags: 1 clearLocks, 2 latchToLock, 4 doesn't lock, 8 doesn't unlock, 16 absolute.
abbrev pub action_flags : Action → ℕ
action_flags actions.None = 0
action_flags (actions.SetMods m clear) = flag clear 1
action_flags (actions.LatchMods m clear latch) = flag clear 1 + flag latch 2
action_flags (actions.LockMods m locks unlocks) = flag (not locks) 4 + flag (not unlocks) 8
action_flags (actions.SetGroup g clear) = flag clear 1 + absolute_flag g
action_flags (actions.LatchGroup g clear latch) = flag clear 1 + flag latch 2 + absolute_flag g
action_flags (actions.LockGroup g) = absolute_flag g

abbrev pub action_mods : Action → ℕ
action_mods actions.None = 0
action_mods (actions.SetMods m clear) = mask m
action_mods (actions.LatchMods m clear latch) = mask m
action_mods (actions.LockMods m locks unlocks) = mask m
action_mods (actions.SetGroup g clear) = 0
action_mods (actions.LatchGroup g clear latch) = 0
action_mods (actions.LockGroup g) = 0

-- a number from -128 to 127 in a byte
abbrev pub signed_byte : ℤ → ℕ
signed_byte (pos n) = n
signed_byte (negsuc n) = 255 - n

abbrev pub byte_signed : ℕ → ℤ
byte_signed b = cond (nat_lt b 128) (pos b) (negsuc (255 - b))

abbrev pub change_byte : GroupChange → ℕ
change_byte (Absolute g) = g
change_byte (Relative d) = signed_byte d

abbrev pub action_group : Action → ℕ
action_group actions.None = 0
action_group (actions.SetMods m clear) = 0
action_group (actions.LatchMods m clear latch) = 0
action_group (actions.LockMods m locks unlocks) = 0
action_group (actions.SetGroup g clear) = change_byte g
action_group (actions.LatchGroup g clear latch) = change_byte g
action_group (actions.LockGroup g) = change_byte g

abbrev pub has_flag : ℕ → ℕ → Bool
has_flag flags value = not (bit_and flags value == 0)

abbrev pub change_of : ℕ → ℕ → GroupChange
change_of flags group = cond (has_flag flags 16) (Absolute group) (Relative (byte_signed group))

abbrev pub action_of : ℕ → ℕ → ℕ → ℕ → Action
action_of code flags mods group =
    cond (code == 1) (actions.SetMods (record { 0 = mods }) (has_flag flags 1))
    (cond (code == 2) (actions.LatchMods (record { 0 = mods }) (has_flag flags 1) (has_flag flags 2))
    (cond (code == 3) (actions.LockMods (record { 0 = mods }) (not (has_flag flags 4)) (not (has_flag flags 8)))
    (cond (code == 4) (actions.SetGroup (change_of flags group) (has_flag flags 1))
    (cond (code == 5) (actions.LatchGroup (change_of flags group) (has_flag flags 1) (has_flag flags 2))
    (cond (code == 6) (actions.LockGroup (change_of flags group))
    actions.None)))))

-- cell, 12 bytes: keysyms, action, flags, mods, group, three zeros, first keysym
abbrev pub cell_bytes : CellRow → List ℕ
cell_bytes d = (d.keysyms ∷ action_code d.action ∷ action_flags d.action ∷ action_mods d.action ∷ action_group d.action ∷ 0 ∷ 0 ∷ 0 ∷ []) ++ four d.first_keysym

abbrev pub cell_of : List ℕ → CellRow
cell_of s = record {
  keysyms = slice_index s 0;
  action = action_of (slice_index s 1) (slice_index s 2) (slice_index s 3) (slice_index s 4);
  first_keysym = four_at s 8;
}

-- keysym, 4 bytes
abbrev pub keysym_bytes : ℕ → List ℕ
keysym_bytes n = four n

abbrev pub keysym_of : List ℕ → ℕ
keysym_of s = four_at s 0

-- indicator, 16 bytes: mods, states of its mods, states of its groups, zero, groups, name length, zero, first name
abbrev pub indicator_bytes : IndicatorRow → List ℕ
indicator_bytes d = (mask d.mods ∷ state_bits d.mod_states ∷ state_bits d.group_states ∷ 0 ∷ []) ++ four d.groups ++ two d.name_length ++ (0 ∷ 0 ∷ []) ++ four d.first_name

abbrev pub indicator_of : List ℕ → IndicatorRow
indicator_of s = record {
  mods = record { 0 = slice_index s 0 };
  mod_states = record { 0 = slice_index s 1 };
  group_states = record { 0 = slice_index s 2 };
  groups = four_at s 4;
  name_length = two_at s 8;
  first_name = four_at s 12;
}

-- group name, 8 bytes: name length, zero, first name
abbrev pub group_name_bytes : GroupNameRow → List ℕ
group_name_bytes g = two g.name_length ++ (0 ∷ 0 ∷ []) ++ four g.first_name

abbrev pub group_name_of : List ℕ → GroupNameRow
group_name_of s = record { name_length = two_at s 0; first_name = four_at s 4 }
