-- The keymap that tables show: for a code, an effective group and effective modifiers what the key gives.
use Rattle.std.specs.Prelude.{ℕ, pos, List, [], Bool, ◌==◌, ◌+◌, ◌-◌, Option, None, Some, cond, find, is_some, map, max, slice_get}
use Rattle.std.specs.Int.RustNames.{bit_and}
use Rattle.kx_mods.specs.Mods.{mask, mask_without}
use Rattle.kx_tables.specs.Content.{Content, greatest_groups, part}
use Rattle.kx_tables.specs.Range.{in_range}
use Rattle.kx_tables.specs.States.{state_bits}
use Rattle.kx_tables.specs.declared.rows.Action.{Action}
use Rattle.kx_tables.specs.declared.rows.Action.TheVariants as actions
use Rattle.kx_tables.specs.declared.rows.CellRow.{CellRow}
use Rattle.kx_tables.specs.declared.rows.EntryRow.{EntryRow}
use Rattle.kx_tables.specs.declared.rows.GroupRow.{GroupRow}
use Rattle.kx_tables.specs.declared.rows.IndicatorRow.{IndicatorRow}
use Rattle.kx_tables.specs.declared.rows.KeyRow.{KeyRow}
use Rattle.kx_tables.specs.declared.rows.TypeRow.{TypeRow}

-- what a press of a key gives: its keysyms, the modifiers that they consume, and its action
pub record Shown : Type 0 where
  pub syms : List ℕ
  pub consumed : ℕ
  pub action : Action

-- what lights an indicator: modifiers of the states named, or groups of the states named
pub record IndicatorMap : Type 0 where
  pub mods : ℕ
  pub mod_states : ℕ
  pub group_states : ℕ
  pub groups : ℕ

pub record Keymap : Type 0 where
  -- the greatest number of groups of a key, at least 1
  pub groups : ℕ
  -- whether a key has this code
  pub known : ℕ → Bool
  -- by code, effective group (from 0) and effective modifiers
  pub shown : ℕ → ℕ → ℕ → Shown
  pub indicator_maps : List IndicatorMap

abbrev pub nothing_shown : Shown
nothing_shown = record { syms = []; consumed = 0; action = actions.None }

-- the first entry of the type whose modifiers are the effective ones, cut to the type's
abbrev pub entry_for : Content → TypeRow → ℕ → Option EntryRow
entry_for c t mods = find (λ e. mask e.mods == bit_and mods (mask t.mods)) (part c.entries t.first_entry t.entries)

-- the level that an entry gives, counted from 0: the first without one
abbrev pub level_of : Option EntryRow → ℕ
level_of None = 0
level_of (Some e) = e.level - 1

-- the type's modifiers without those that the entry preserves
abbrev pub consumed_by : TypeRow → Option EntryRow → ℕ
consumed_by t None = mask t.mods
consumed_by t (Some e) = mask_without (mask t.mods) (mask e.preserve)

abbrev pub cell_shows : Content → ℕ → Option CellRow → Shown
cell_shows c consumed None = nothing_shown
cell_shows c consumed (Some d) = record { syms = part c.keysyms d.first_keysym d.keysyms; consumed = consumed; action = d.action }

abbrev pub type_shows : Content → GroupRow → ℕ → Option TypeRow → Shown
type_shows c g mods None = nothing_shown
type_shows c g mods (Some t) =
    let entry = entry_for c t mods in
    cell_shows c (consumed_by t entry) (slice_get c.cells (g.first_cell + level_of entry))

abbrev pub group_shows : Content → ℕ → Option GroupRow → Shown
group_shows c mods None = nothing_shown
group_shows c mods (Some g) = type_shows c g mods (slice_get c.types g.key_type)

-- a key without groups gives nothing
abbrev pub key_shows : Content → ℕ → ℕ → Option KeyRow → Shown
key_shows c group mods None = nothing_shown
key_shows c group mods (Some k) =
    cond (k.groups == 0) nothing_shown
    (group_shows c mods (slice_get c.groups (k.first_group + in_range (pos group) k.groups k.range)))

abbrev pub key_with : Content → ℕ → Option KeyRow
key_with c code = find (λ k. k.code == code) c.keys

abbrev pub indicator_map_of : IndicatorRow → IndicatorMap
indicator_map_of d = record { mods = mask d.mods; mod_states = state_bits d.mod_states; group_states = state_bits d.group_states; groups = d.groups }

abbrev pub keymap_of : Content → Keymap
keymap_of c = record {
  groups = max 1 (greatest_groups c.keys);
  known = λ code. is_some (key_with c code);
  shown = λ code group mods. key_shows c group mods (key_with c code);
  indicator_maps = map indicator_map_of c.indicators;
}
