-- What is printed of tables, as the values that a text says again, and the rules that they keep.
use Rattle.std.specs.Prelude.{ℕ, ◌≡◌, ◌≢◌, ◌+◌, ◌-◌, ◌<◌, ◌≤◌, ◌==◌, ◌^◌, true, nat_lt, List, [], ◌∷◌, ◌++◌, Option, length, map, slice_get, unwrap_or, if◌then◌else◌}
use Rattle.std.specs.Int.RustNames.{bit_and}
use Rattle.std.specs.List.{list_all}
use Rattle.std.specs.Option.{option_and_then, option_map_or}
use Rattle.kx_basics.specs.KeyNames.{is_key_byte}
use Rattle.kx_basics.specs.Keysyms.{IsKeysym}
use Rattle.kx_basics.specs.declared.limits.TheConstants.{GREATEST_CODE, MOST_GROUPS, MOST_KEYSYMS, MOST_LEVELS, MOST_NAME_BYTES}
use Rattle.kx_builder.specs.IndicatorMaps.{ResolvedIndicator}
use Rattle.kx_builder.specs.Resolved.{ResolvedCell, ResolvedType}
use Rattle.kx_builder.specs.Seen.{cell_seen, type_seen}
use Rattle.kx_mods.specs.Mods.{mask}
use Rattle.kx_mods.specs.declared.mods.Mods.{Mods}
use Rattle.kx_tables.specs.Content.{Content, group_name, indicator_name, key_name, levels_of, part, type_name}
use Rattle.kx_tables.specs.Sound.{ActionHolds, RangeHolds}
use Rattle.kx_tables.specs.States.{state_bits}
use Rattle.kx_tables.specs.declared.rows.EntryRow.{EntryRow}
use Rattle.kx_tables.specs.declared.rows.GroupRow.{GroupRow}
use Rattle.kx_tables.specs.declared.rows.IndicatorRow.{IndicatorRow}
use Rattle.kx_tables.specs.declared.rows.KeyRow.{KeyRow}
use Rattle.kx_tables.specs.declared.rows.Range.{Range}

-- ---- Lists

-- P holds of each
abbrev pub EachOf : {X : Type 0} → (X → Type 0) → List X → Type 0
EachOf P [] = Unit {0}
EachOf P (x ∷ xs) = P x × EachOf P xs

-- no two have the same f
abbrev pub AreApart : {X Y : Type 0} → (X → Y) → List X → Type 0
AreApart f [] = Unit {0}
AreApart f (x ∷ xs) = EachOf (λ y. f x ≢ f y) xs × AreApart f xs

-- f rises, and is at least a number
abbrev pub AreRising : {X : Type 0} → (X → ℕ) → ℕ → List X → Type 0
AreRising f low [] = Unit {0}
AreRising f low (x ∷ xs) = (low ≤ f x) × AreRising f (f x + 1) xs

abbrev pub are_bytes : List ℕ → Type 0
are_bytes name = list_all (λ b. nat_lt b 256) name ≡ true

-- ---- Types

pub record EntryFits (t : ResolvedType) (e : EntryRow) : Type 0 where
  pub mods : mask e.mods < 2 ^ 8
  pub preserve : mask e.preserve < 2 ^ 8
  pub within : bit_and (mask e.mods) (mask t.mods) ≡ mask e.mods
  pub preserve_within : bit_and (mask e.preserve) (mask e.mods) ≡ mask e.preserve
  pub some_level : 1 ≤ e.level
  pub level : e.level ≤ t.levels

pub record TypeFits (t : ResolvedType) : Type 0 where
  pub name_fits : length t.name ≤ MOST_NAME_BYTES
  pub bytes : are_bytes t.name
  pub mods : mask t.mods < 2 ^ 8
  pub some_level : 1 ≤ t.levels
  pub levels : t.levels ≤ MOST_LEVELS
  pub entries : EachOf (EntryFits t) t.entries
  pub apart : AreApart (λ (e : EntryRow). mask e.mods) t.entries

abbrev pub types_printed : Content → List ResolvedType
types_printed c = map (type_seen c) c.types

-- ---- Indicators

pub record IndicatorFits (d : ResolvedIndicator) : Type 0 where
  pub name_fits : length d.name ≤ MOST_NAME_BYTES
  pub bytes : are_bytes d.name
  pub mods : mask d.mods < 2 ^ 8
  pub mod_states : state_bits d.mod_states ≤ 15
  pub group_states : state_bits d.group_states ≤ 15
  pub groups : d.groups < 2 ^ 32

abbrev pub indicator_seen : Content → IndicatorRow → ResolvedIndicator
indicator_seen c d = record { name = indicator_name c d; mods = d.mods; mod_states = d.mod_states; group_states = d.group_states; groups = d.groups }

abbrev pub indicators_printed : Content → List ResolvedIndicator
indicators_printed c = map (indicator_seen c) c.indicators

-- ---- Names of groups

-- a group, counted from 1, and its name
pub record NamedGroup : Type 0 where
  pub group : ℕ
  pub name : List ℕ

-- groups without a name are left out; the first of the names is that of the group of a number
abbrev pub named_from : ℕ → List (List ℕ) → List NamedGroup
named_from n [] = []
named_from n (g ∷ gs) = (if length g == 0 then [] else record { group = n; name = g } ∷ []) ++ named_from (n + 1) gs

pub record NameFits (name : List ℕ) : Type 0 where
  pub name_fits : length name ≤ MOST_NAME_BYTES
  pub bytes : are_bytes name

-- names by group, of which the last has bytes
pub record NamesFit (gs : List (List ℕ)) : Type 0 where
  pub few : length gs ≤ MOST_GROUPS
  pub each : EachOf NameFits gs
  pub ends : unwrap_or (slice_get gs (length gs - 1)) [] ≡ [] → gs ≡ []

abbrev pub names_printed : Content → List (List ℕ)
names_printed c = map (group_name c) c.group_names

-- ---- Keys

pub record PrintedGroup : Type 0 where
  pub type_name : List ℕ
  pub cells : List ResolvedCell

pub record PrintedKey : Type 0 where
  pub code : ℕ
  pub name : List ℕ
  pub modmap : Mods
  pub range : Range
  pub groups : List PrintedGroup

pub record CellFits (d : ResolvedCell) : Type 0 where
  pub few : length d.syms ≤ MOST_KEYSYMS
  pub keysyms : EachOf IsKeysym d.syms
  pub does : ActionHolds d.action

pub record GroupFits (g : PrintedGroup) : Type 0 where
  pub name_fits : length g.type_name ≤ MOST_NAME_BYTES
  pub bytes : are_bytes g.type_name
  pub some_level : 1 ≤ length g.cells
  pub levels : length g.cells ≤ MOST_LEVELS
  pub cells : EachOf CellFits g.cells

pub record KeyFits (k : PrintedKey) : Type 0 where
  pub code : k.code ≤ GREATEST_CODE
  pub name_fits : length k.name ≤ MOST_NAME_BYTES
  pub bytes : list_all is_key_byte k.name ≡ true
  pub mapped : mask k.modmap < 2 ^ 8
  pub range : RangeHolds k.range
  pub few : length k.groups ≤ MOST_GROUPS
  pub groups : EachOf GroupFits k.groups

-- the level of a group, both counted from 0
abbrev pub cell_at : PrintedKey → ℕ → ℕ → Option ResolvedCell
cell_at k group level = option_and_then (λ (g : PrintedGroup). slice_get g.cells level) (slice_get k.groups group)

abbrev pub group_printed : Content → GroupRow → PrintedGroup
group_printed c g = record {
  type_name = option_map_or (type_name c) (slice_get c.types g.key_type) [];
  cells = map (cell_seen c) (part c.cells g.first_cell (levels_of c g));
}

abbrev pub key_printed : Content → KeyRow → PrintedKey
key_printed c k = record {
  code = k.code;
  name = key_name c k;
  modmap = k.modmap;
  range = k.range;
  groups = map (group_printed c) (part c.groups k.first_group k.groups);
}

abbrev pub keys_printed : Content → List PrintedKey
keys_printed c = map (key_printed c) c.keys
