-- What the checks of each table establish, for the rows below an index.
use Rattle.std.specs.Prelude.{ℕ, List, ◌≡◌, ◌+◌, ◌<◌, ◌≤◌, ◌^◌, Bool, true, false, slice_index_or, Some, length, take, sum_by, slice_get}
use Rattle.std.specs.Int.RustNames.{bit_and}
use Rattle.kx_basics.specs.declared.limits.TheConstants.{GREATEST_CODE, MOST_GROUPS, MOST_KEYSYMS, MOST_NAME_BYTES, MOST_LEVELS}
use Rattle.kx_mods.specs.Mods.{mask}
use Rattle.kx_tables.specs.Content.{Content, levels_of, types_used, type_names, key_names, indicator_names}
use Rattle.kx_tables.specs.Sound.{ActionHolds, CellHolds, EachRow, EntryHolds, GroupHolds, GroupNameHolds, IsNewName, RangeHolds}
use Rattle.kx_tables.specs.States.{state_bits}
use Rattle.kx_tables.specs.declared.rows.CellRow.{CellRow}
use Rattle.kx_tables.specs.declared.rows.EntryRow.{EntryRow}
use Rattle.kx_tables.specs.declared.rows.GroupNameRow.{GroupNameRow}
use Rattle.kx_tables.specs.declared.rows.GroupRow.{GroupRow}
use Rattle.kx_tables.specs.declared.rows.IndicatorRow.{IndicatorRow}
use Rattle.kx_tables.specs.declared.rows.KeyRow.{KeyRow}
use Rattle.kx_tables.specs.declared.rows.TypeRow.{TypeRow}

-- P holds of each row below an index
abbrev pub EachBelow : {X : Type 0} → List X → (ℕ → X → Type 0) → ℕ → Type 0
EachBelow {X} xs P n = (i : ℕ) (x : X) → i < n → slice_get xs i ≡ Some x → P i x

-- the rules of a type that speak of its numbers alone
pub record TypeNumbers (t : TypeRow) (entries_before names_before : ℕ) : Type 0 where
  pub mods : mask t.mods < 2 ^ 8
  pub entries : t.entries < 2 ^ 16
  pub some_level : 1 ≤ t.levels
  pub levels : t.levels ≤ MOST_LEVELS
  pub name_length : t.name_length ≤ MOST_NAME_BYTES
  pub first_entry : t.first_entry ≡ entries_before
  pub first_name : t.first_name ≡ names_before

abbrev pub TypeIsNumbered : Content → ℕ → TypeRow → Type 0
TypeIsNumbered c i t = TypeNumbers t (sum_by (λ u. u.entries) (take i c.types)) (sum_by (λ u. u.name_length) (take i c.types))

pub record TypesAre (c : Content) (n entries names : ℕ) : Type 0 where
  pub entries_sum : entries ≡ sum_by (λ u. u.entries) (take n c.types)
  pub names_sum : names ≡ sum_by (λ u. u.name_length) (take n c.types)
  pub each : EachBelow c.types (TypeIsNumbered c) n

-- the rules of a key that speak of its numbers alone
pub record KeyNumbers (k : KeyRow) (groups_before names_before : ℕ) : Type 0 where
  pub code : k.code ≤ GREATEST_CODE
  pub modmap : mask k.modmap < 2 ^ 8
  pub range : RangeHolds k.range
  pub groups : k.groups ≤ MOST_GROUPS
  pub name_length : k.name_length ≤ MOST_NAME_BYTES
  pub first_name : k.first_name ≡ names_before
  pub first_group : k.first_group ≡ groups_before

-- the key's code is above those of the keys before it
abbrev pub Rises : Content → ℕ → KeyRow → Type 0
Rises c i k = (j : ℕ) (l : KeyRow) → j < i → slice_get c.keys j ≡ Some l → l.code < k.code

pub record KeyIsNumbered (c : Content) (i : ℕ) (k : KeyRow) : Type 0 where
  pub numbers : KeyNumbers k (sum_by (λ l. l.groups) (take i c.keys)) (type_names c + sum_by (λ l. l.name_length) (take i c.keys))
  pub rises : Rises c i k

-- next is one more than the code of one of the first n keys, and above the codes of all
pub record KeysAre (c : Content) (n groups names next : ℕ) : Type 0 where
  pub groups_sum : groups ≡ sum_by (λ l. l.groups) (take n c.keys)
  pub names_sum : names ≡ type_names c + sum_by (λ l. l.name_length) (take n c.keys)
  pub above : EachBelow c.keys (λ i k. k.code < next) n
  pub next_is : 0 < next → (j : ℕ) × (l : KeyRow) × (j < n) × (slice_get c.keys j ≡ Some l) × (next ≡ l.code + 1)
  pub each : EachBelow c.keys (KeyIsNumbered c) n

pub record GroupsAre (c : Content) (n used cells : ℕ) : Type 0 where
  pub used_is : used ≡ types_used (take n c.groups)
  pub used_exist : used ≤ length c.types
  pub cells_sum : cells ≡ sum_by (levels_of c) (take n c.groups)
  pub each : EachBelow c.groups (GroupHolds c) n

-- the rules of a group, with what its type and the groups before it give
pub record GroupNumbers (g : GroupRow) (types used cells : ℕ) : Type 0 where
  pub key_type : g.key_type < types
  pub first_use : g.key_type ≤ used
  pub first_cell : g.first_cell ≡ cells

pub record CellNumbers (d : CellRow) (keysyms_before : ℕ) : Type 0 where
  pub keysyms : d.keysyms ≤ MOST_KEYSYMS
  pub action : ActionHolds d.action
  pub first_keysym : d.first_keysym ≡ keysyms_before

pub record CellsAre (c : Content) (n keysyms : ℕ) : Type 0 where
  pub keysyms_sum : keysyms ≡ sum_by (λ e. e.keysyms) (take n c.cells)
  pub each : EachBelow c.cells (CellHolds c) n

-- the rules of an indicator that speak of its numbers alone
pub record IndicatorNumbers (d : IndicatorRow) (i names : ℕ) : Type 0 where
  pub place : i < 32
  pub mods : mask d.mods < 2 ^ 8
  pub groups : d.groups < 2 ^ 32
  pub mod_states : state_bits d.mod_states ≤ 15
  pub group_states : state_bits d.group_states ≤ 15
  pub name_length : d.name_length ≤ MOST_NAME_BYTES
  pub first_name : d.first_name ≡ names

abbrev pub IndicatorIsNumbered : Content → ℕ → IndicatorRow → Type 0
IndicatorIsNumbered c i d = IndicatorNumbers d i (type_names c + key_names c + sum_by (λ e. e.name_length) (take i c.indicators))

pub record IndicatorsAre (c : Content) (n names : ℕ) : Type 0 where
  pub names_sum : names ≡ type_names c + key_names c + sum_by (λ e. e.name_length) (take n c.indicators)
  pub each : EachBelow c.indicators (IndicatorIsNumbered c) n

pub record GroupNameNumbers (g : GroupNameRow) (i count names : ℕ) : Type 0 where
  pub place : i < 32
  pub name_length : g.name_length ≤ MOST_NAME_BYTES
  pub first_name : g.first_name ≡ names
  pub last : i + 1 ≡ count → 0 < g.name_length

pub record GroupNamesAre (c : Content) (n names : ℕ) : Type 0 where
  pub names_sum : names ≡ type_names c + key_names c + indicator_names c + sum_by (λ h. h.name_length) (take n c.group_names)
  pub each : EachBelow c.group_names (GroupNameHolds c) n

-- the rules of an entry that speak of its numbers alone
pub record EntryNumbers (e : EntryRow) (t : TypeRow) : Type 0 where
  pub mods : mask e.mods < 2 ^ 8
  pub preserve : mask e.preserve < 2 ^ 8
  pub within : bit_and (mask e.mods) (mask t.mods) ≡ mask e.mods
  pub preserve_within : bit_and (mask e.preserve) (mask e.mods) ≡ mask e.preserve
  pub some_level : 1 ≤ e.level
  pub level : e.level ≤ t.levels

-- an entry of the type before place n has the modifiers m
pub record HasEntry (c : Content) (t : TypeRow) (n m : ℕ) : Type 0 where
  pub place : ℕ
  pub entry : EntryRow
  pub from : t.first_entry ≤ place
  pub below : place < n
  pub is : slice_get c.entries place ≡ Some entry
  pub mods : mask entry.mods ≡ m

-- the entries of a type before place n, and which modifiers they have
pub record EntriesAre (c : Content) (t : TypeRow) (n : ℕ) (seen : List Bool) : Type 0 where
  pub size : length seen ≡ 256
  pub each : (j : ℕ) (e : EntryRow) → t.first_entry ≤ j → j < n → slice_get c.entries j ≡ Some e → EntryHolds c t j e
  pub seen_only : (m : ℕ) → slice_index_or seen m false ≡ true → HasEntry c t n m
  pub seen_all : (j : ℕ) (e : EntryRow) → t.first_entry ≤ j → j < n → slice_get c.entries j ≡ Some e → slice_index_or seen (mask e.mods) false ≡ true

-- the entries of a type lie within their table
abbrev pub EntriesLie : Content → ℕ → TypeRow → Type 0
EntriesLie c i t = t.first_entry + t.entries ≤ length c.entries

-- a type's entries begin where those of the types before it end
abbrev pub EntriesBegin : Content → ℕ → TypeRow → Type 0
EntriesBegin c i t = t.first_entry ≡ sum_by (λ (u : TypeRow). u.entries) (take i c.types)

-- no row has the name of an earlier one
abbrev pub NamesAreNew : {X : Type 0} → List X → (X → List ℕ) → Type 0
NamesAreNew {X} xs name_of = EachRow xs (λ i x. IsNewName xs name_of i (name_of x))
