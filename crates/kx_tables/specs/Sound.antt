-- When the tables are sound: each row's numbers fit, each `first_` field is the sum of the counts before
-- it, and each row keeps the rules of its kind.
use Rattle.std.specs.Prelude.{ℕ, pos, List, ◌≡◌, ◌≢◌, ◌+◌, ◌<◌, ◌≤◌, ◌≤ℤ◌, ◌^◌, Some, length, take, sum_by, slice_get, negsuc}
use Rattle.std.specs.Int.RustNames.{bit_and}
use Rattle.kx_basics.specs.KeyNames.{IsKeyByte}
use Rattle.kx_basics.specs.Keysyms.{IsKeysym}
use Rattle.kx_basics.specs.declared.limits.TheConstants.{GREATEST_CODE, MOST_GROUPS, MOST_KEYSYMS, MOST_NAME_BYTES, MOST_LEVELS}
use Rattle.kx_mods.specs.Mods.{mask}
use Rattle.kx_tables.specs.Content.{Content, type_name, key_name, indicator_name, levels_of, types_used, type_names, key_names, indicator_names, group_names}
use Rattle.kx_tables.specs.States.{state_bits}
use Rattle.kx_tables.specs.declared.rows.Action.{Action}
use Rattle.kx_tables.specs.declared.rows.Action.TheVariants as actions
use Rattle.kx_tables.specs.declared.rows.CellRow.{CellRow}
use Rattle.kx_tables.specs.declared.rows.EntryRow.{EntryRow}
use Rattle.kx_tables.specs.declared.rows.GroupChange.{GroupChange}
use Rattle.kx_tables.specs.declared.rows.GroupChange.TheVariants.{Absolute, Relative}
use Rattle.kx_tables.specs.declared.rows.GroupNameRow.{GroupNameRow}
use Rattle.kx_tables.specs.declared.rows.GroupRow.{GroupRow}
use Rattle.kx_tables.specs.declared.rows.IndicatorRow.{IndicatorRow}
use Rattle.kx_tables.specs.declared.rows.KeyRow.{KeyRow}
use Rattle.kx_tables.specs.declared.rows.Range.{Range}
use Rattle.kx_tables.specs.declared.rows.Range.TheVariants.{Wrap, Clamp, Redirect}
use Rattle.kx_tables.specs.declared.rows.TypeRow.{TypeRow}

-- P holds of each row with its index
abbrev pub EachRow : {X : Type 0} → List X → (ℕ → X → Type 0) → Type 0
EachRow {X} xs P = (i : ℕ) (x : X) → slice_get xs i ≡ Some x → P i x

-- no row before the index has this name
abbrev pub IsNewName : {X : Type 0} → List X → (X → List ℕ) → ℕ → List ℕ → Type 0
IsNewName {X} xs name_of i name = (j : ℕ) (x : X) → j < i → slice_get xs j ≡ Some x → name_of x ≢ name

pub record TypeHolds (c : Content) (i : ℕ) (t : TypeRow) : Type 0 where
  pub mods : mask t.mods < 2 ^ 8
  pub some_level : 1 ≤ t.levels
  pub levels : t.levels ≤ MOST_LEVELS
  pub entries : t.entries < 2 ^ 16
  pub name_length : t.name_length ≤ MOST_NAME_BYTES
  pub first_entry : t.first_entry ≡ sum_by (λ u. u.entries) (take i c.types)
  pub first_name : t.first_name ≡ sum_by (λ u. u.name_length) (take i c.types)
  pub is_used : i < types_used c.groups
  pub is_new : IsNewName c.types (type_name c) i (type_name c t)

-- the entry at an index, of a type
pub record EntryHolds (c : Content) (t : TypeRow) (i : ℕ) (e : EntryRow) : Type 0 where
  pub mods : mask e.mods < 2 ^ 8
  pub preserve : mask e.preserve < 2 ^ 8
  pub within : bit_and (mask e.mods) (mask t.mods) ≡ mask e.mods
  pub preserve_within : bit_and (mask e.preserve) (mask e.mods) ≡ mask e.preserve
  pub some_level : 1 ≤ e.level
  pub level : e.level ≤ t.levels
  -- no earlier entry of the type has its modifiers
  pub is_new : (j : ℕ) (d : EntryRow) → t.first_entry ≤ j → j < i → slice_get c.entries j ≡ Some d → mask d.mods ≢ mask e.mods

abbrev pub RangeHolds : Range → Type 0
RangeHolds Wrap = Unit {0}
RangeHolds Clamp = Unit {0}
RangeHolds (Redirect r) = r ≤ 31

pub record KeyHolds (c : Content) (i : ℕ) (k : KeyRow) : Type 0 where
  pub code : k.code ≤ GREATEST_CODE
  pub modmap : mask k.modmap < 2 ^ 8
  pub range : RangeHolds k.range
  pub groups : k.groups ≤ MOST_GROUPS
  pub name_length : k.name_length ≤ MOST_NAME_BYTES
  pub first_name : k.first_name ≡ type_names c + sum_by (λ l. l.name_length) (take i c.keys)
  pub first_group : k.first_group ≡ sum_by (λ l. l.groups) (take i c.keys)
  pub rises : (j : ℕ) (l : KeyRow) → j < i → slice_get c.keys j ≡ Some l → l.code < k.code
  pub is_new : IsNewName c.keys (key_name c) i (key_name c k)

pub record GroupHolds (c : Content) (i : ℕ) (g : GroupRow) : Type 0 where
  pub key_type : g.key_type < length c.types
  -- a type is one that an earlier group uses, or the next
  pub first_use : g.key_type ≤ types_used (take i c.groups)
  pub first_cell : g.first_cell ≡ sum_by (levels_of c) (take i c.groups)

abbrev pub GroupChangeHolds : GroupChange → Type 0
GroupChangeHolds (Absolute g) = g ≤ 31
GroupChangeHolds (Relative d) = (negsuc 31 ≤ℤ d) × (d ≤ℤ pos 32)

abbrev pub ActionHolds : Action → Type 0
ActionHolds actions.None = Unit {0}
ActionHolds (actions.SetMods mods clear_locks) = mask mods < 2 ^ 8
ActionHolds (actions.LatchMods mods clear_locks latch_to_lock) = mask mods < 2 ^ 8
ActionHolds (actions.LockMods mods locks unlocks) = mask mods < 2 ^ 8
ActionHolds (actions.SetGroup group clear_locks) = GroupChangeHolds group
ActionHolds (actions.LatchGroup group clear_locks latch_to_lock) = GroupChangeHolds group
ActionHolds (actions.LockGroup group) = GroupChangeHolds group

pub record CellHolds (c : Content) (i : ℕ) (d : CellRow) : Type 0 where
  pub keysyms : d.keysyms ≤ MOST_KEYSYMS
  pub action : ActionHolds d.action
  pub first_keysym : d.first_keysym ≡ sum_by (λ e. e.keysyms) (take i c.cells)

pub record IndicatorHolds (c : Content) (i : ℕ) (d : IndicatorRow) : Type 0 where
  pub place : i < 32
  pub mods : mask d.mods < 2 ^ 8
  pub mod_states : state_bits d.mod_states ≤ 15
  pub group_states : state_bits d.group_states ≤ 15
  pub groups : d.groups < 2 ^ 32
  pub name_length : d.name_length ≤ MOST_NAME_BYTES
  pub first_name : d.first_name ≡ type_names c + key_names c + sum_by (λ e. e.name_length) (take i c.indicators)
  pub is_new : IsNewName c.indicators (indicator_name c) i (indicator_name c d)

pub record GroupNameHolds (c : Content) (i : ℕ) (g : GroupNameRow) : Type 0 where
  pub place : i < 32
  pub name_length : g.name_length ≤ MOST_NAME_BYTES
  pub first_name : g.first_name ≡ type_names c + key_names c + indicator_names c + sum_by (λ h. h.name_length) (take i c.group_names)
  -- the last one isn't empty
  pub last : i + 1 ≡ length c.group_names → 0 < g.name_length

-- the counts are the sums of the rows' counts, and fit
pub record CountsHold (c : Content) : Type 0 where
  pub types : length c.types < 2 ^ 16
  pub entries : length c.entries ≡ sum_by (λ t. t.entries) c.types
  pub entries_fit : length c.entries < 2 ^ 32
  pub keys : length c.keys < 2 ^ 16
  pub groups : length c.groups ≡ sum_by (λ k. k.groups) c.keys
  pub cells : length c.cells ≡ sum_by (levels_of c) c.groups
  pub cells_fit : length c.cells < 2 ^ 32
  pub keysyms : length c.keysyms ≡ sum_by (λ d. d.keysyms) c.cells
  pub keysyms_fit : length c.keysyms < 2 ^ 32
  pub names : length c.names ≡ type_names c + key_names c + indicator_names c + group_names c
  pub names_fit : length c.names < 2 ^ 32

-- each entry keeps the rules of the type that it belongs to
abbrev pub EntriesHold : Content → ℕ → TypeRow → Type 0
EntriesHold c i t = (j : ℕ) (e : EntryRow) → t.first_entry ≤ j → j < t.first_entry + t.entries → slice_get c.entries j ≡ Some e → EntryHolds c t j e

-- the bytes of the names, which the keys' names restrict
pub record NameByteHolds (c : Content) (i : ℕ) (b : ℕ) : Type 0 where
  pub byte : b < 2 ^ 8
  pub of_key : type_names c ≤ i → i < type_names c + key_names c → IsKeyByte b

pub record Sound (c : Content) : Type 0 where
  pub counts : CountsHold c
  pub types : EachRow c.types (TypeHolds c)
  pub entries : EachRow c.types (EntriesHold c)
  pub keys : EachRow c.keys (KeyHolds c)
  pub groups : EachRow c.groups (GroupHolds c)
  pub cells : EachRow c.cells (CellHolds c)
  pub keysyms : EachRow c.keysyms (λ i s. IsKeysym s)
  pub indicators : EachRow c.indicators (IndicatorHolds c)
  pub group_names : EachRow c.group_names (GroupNameHolds c)
  pub names : EachRow c.names (NameByteHolds c)
