-- The indicators of a keymap and the names of its groups, and the tables that hold them after types and keys.
use Rattle.std.specs.Prelude.{ℕ, ◌≡◌, ◌+◌, ◌<◌, ◌≤◌, ◌^◌, All, List, ◌++◌, Some, length, map, slice_get}
use Rattle.std.specs.List.{flat_map}
use Rattle.kx_basics.specs.declared.limits.TheConstants.{MOST_GROUPS, MOST_NAME_BYTES}
use Rattle.kx_builder.specs.Valid.{Apart}
use Rattle.kx_builder.specs.Placed.{rows_of}
use Rattle.kx_builder.specs.declared.indicator_maps.Indicator.{Indicator}
use Rattle.kx_mods.specs.Mods.{mask}
use Rattle.kx_mods.specs.declared.mods.Mods.{Mods}
use Rattle.kx_tables.specs.Content.{Content}
use Rattle.kx_tables.specs.Keymap.{Keymap, IndicatorMap}
use Rattle.kx_tables.specs.States.{state_bits}
use Rattle.kx_tables.specs.declared.rows.GroupNameRow.{GroupNameRow}
use Rattle.kx_tables.specs.declared.rows.IndicatorRow.{IndicatorRow}
use Rattle.kx_tables.specs.declared.rows.States.{States}

-- an indicator is lit by modifiers of the states named, or by groups of the states named, of which bit g is group g
pub record ResolvedIndicator : Type 0 where
  pub name : List ℕ
  pub mods : Mods
  pub mod_states : States
  pub group_states : States
  pub groups : ℕ

abbrev pub indicator_of : Indicator → ResolvedIndicator
indicator_of d = record { name = d.name.now; mods = d.mods; mod_states = d.mod_states; group_states = d.group_states; groups = d.groups }

abbrev pub indicator_map_of_indicator : ResolvedIndicator → IndicatorMap
indicator_map_of_indicator d = record { mods = mask d.mods; mod_states = state_bits d.mod_states; group_states = state_bits d.group_states; groups = d.groups }

-- a keymap with these indicator maps
abbrev pub keymap_with : Keymap → List ResolvedIndicator → Keymap
keymap_with k ds = record k { indicator_maps = map indicator_map_of_indicator ds }

-- ---- The tables

abbrev pub names_of_indicators : List ResolvedIndicator → List ℕ
names_of_indicators ds = flat_map (λ d. d.name) ds

abbrev pub names_of_groups : List (List ℕ) → List ℕ
names_of_groups gs = flat_map (λ g. g) gs

-- a name stands after so many bytes of others, and the names of the rows before it
abbrev pub indicator_row : ℕ → List ResolvedIndicator → ResolvedIndicator → IndicatorRow
indicator_row first before d = record {
  mods = d.mods;
  mod_states = d.mod_states;
  group_states = d.group_states;
  groups = d.groups;
  name_length = length d.name;
  first_name = first + length (names_of_indicators before);
}

abbrev pub group_name_row : ℕ → List (List ℕ) → List ℕ → GroupNameRow
group_name_row first before g = record { name_length = length g; first_name = first + length (names_of_groups before) }

abbrev pub with_indicators : Content → List ResolvedIndicator → Content
with_indicators c ds = record c { indicators = rows_of (indicator_row (length c.names)) ds; names = c.names ++ names_of_indicators ds }

abbrev pub with_group_names : Content → List (List ℕ) → Content
with_group_names c gs = record c { group_names = rows_of (group_name_row (length c.names)) gs; names = c.names ++ names_of_groups gs }

abbrev pub with_indicator_maps : Content → List ResolvedIndicator → List (List ℕ) → Content
with_indicator_maps c ds gs = with_group_names (with_indicators c ds) gs

-- the numbers of rows for what is named fit, where the names stand after those of the tables
pub record NamesFit {X : Type 0} (c : Content) (name : X → List ℕ) (xs : List X) : Type 0 where
  pub lengths : All (λ x. length (name x) < 2 ^ 16) xs
  pub all : length c.names + length (flat_map name xs) < 2 ^ 32

abbrev pub IndicatorMapsFit : Content → List ResolvedIndicator → List (List ℕ) → Type 0
IndicatorMapsFit c ds gs = NamesFit c (λ (d : ResolvedIndicator). d.name) ds × NamesFit (with_indicators c ds) (λ (g : List ℕ). g) gs

-- ---- Rules

pub record IndicatorIsValid (d : ResolvedIndicator) : Type 0 where
  pub mods : mask d.mods < 2 ^ 8
  pub mod_states : state_bits d.mod_states ≤ 15
  pub group_states : state_bits d.group_states ≤ 15
  pub groups : d.groups < 2 ^ 32
  pub name_fits : length d.name ≤ MOST_NAME_BYTES
  pub each_byte : All (λ b. b < 2 ^ 8) d.name

pub record GroupNameIsValid (g : List ℕ) : Type 0 where
  pub name_fits : length g ≤ MOST_NAME_BYTES
  pub each_byte : All (λ b. b < 2 ^ 8) g

-- at most 32 of each, indicators with names of their own, and the last group that is named has a name
pub record IndicatorMapsAreValid (ds : List ResolvedIndicator) (gs : List (List ℕ)) : Type 0 where
  pub few_indicators : length ds ≤ 32
  pub each_indicator : All IndicatorIsValid ds
  pub indicators_apart : Apart (λ (d : ResolvedIndicator). d.name) ds
  pub few_groups : length gs ≤ MOST_GROUPS
  pub each_group : All GroupNameIsValid gs
  pub last : (i : ℕ) (g : List ℕ) → slice_get gs i ≡ Some g → i + 1 ≡ length gs → 0 < length g
