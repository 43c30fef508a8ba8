-- The keymap that keys and types mean: for a code, an effective group and effective modifiers what the key gives (X
-- Keyboard Extension, keyboard mapping: key types and groups).
use Rattle.std.specs.Prelude.{ℕ, zero, suc, pos, ◌-◌, ◌==◌, nat_lt, List, [], max, Option, None, is_some, unwrap_or, if◌then◌else◌}
use Rattle.std.specs.Option.{option_map_or}
use Rattle.kx_keys.specs.Rows.{set_mask}
use Rattle.kx_keys.specs.Selecting.{RealSet, consumed, level_selected}
use Rattle.kx_virtual_mods.specs.Sets.{has, real_part}
use Rattle.kx_keys.specs.Given.{KeyGiven}
use Rattle.kx_keys.specs.GroupTypes.{content_group, group_count, group_type_name, type_definition}
use Rattle.kx_tables.specs.Keymap.{Keymap, Shown, nothing_shown}
use Rattle.kx_tables.specs.Range.{in_range}
use Rattle.kx_keys.specs.LevelActions.{LevelActions}
use Rattle.kx_keys.specs.Keys.{Keyed}
use Rattle.kx_types.specs.KeyTypes.{Definition}
use Rattle.kx_keys.specs.Typing.{Typing}
use Rattle.kx_basics.specs.declared.limits.TheConstants.{CODES}

-- `real` is what a set of modifiers stands for, `typing` tells the types of groups
module _ (real : ℕ → RealSet) (typing : Typing) where
  -- what a key gives under a type: the keysyms of the level that the effective modifiers select
  abbrev pub shown_by : Definition → LevelActions → KeyGiven → ℕ → RealSet → Shown
  shown_by type level_actions key group effective = record {
    syms = unwrap_or (key.keysyms group (level_selected real type effective - 1)) [];
    consumed = set_mask (consumed real type effective);
    action = level_actions group (level_selected real type effective - 1);
  }

  abbrev pub shown_in : LevelActions → KeyGiven → ℕ → ℕ → Shown
  shown_in level_actions key group mods = shown_by (type_definition typing (group_type_name typing key group)) level_actions key (content_group key group) (has (real_part mods))

  -- a key without groups gives nothing
  abbrev pub shown_for : LevelActions → KeyGiven → ℕ → ℕ → Shown
  shown_for level_actions key group mods = if group_count key == 0 then nothing_shown else shown_in level_actions key (in_range (pos group) (group_count key) key.range) mods

-- of the keycodes
abbrev pub name_within : (ℕ → Option (List ℕ)) → ℕ → Option (List ℕ)
name_within name code = if nat_lt code CODES then name code else None

module _ (name : ℕ → Option (List ℕ)) (key : ℕ → KeyGiven) where
  -- the greatest number of groups of a key of a code below a number
  unfoldable pub most_groups_below : ℕ → ℕ
  most_groups_below zero = 0
  most_groups_below (suc code) = max (most_groups_below code) (option_map_or (λ _. group_count (key code)) (name code) 0)

-- ---- Under names, for clauses and proofs

module _ (real : ℕ → RealSet) (typing : Typing) (keyed : Keyed) where
  abbrev pub keymap_meant : Keymap
  keymap_meant = record {
    groups = max 1 (most_groups_below keyed.name keyed.key CODES);
    known = λ code. is_some (name_within keyed.name code);
    shown = λ code group mods. option_map_or (λ _. shown_for real typing (keyed.level_actions code) (keyed.key code) group mods) (name_within keyed.name code) nothing_shown;
    indicator_maps = [];
  }

abbrev pub groups_if : (ℕ → Option (List ℕ)) → (ℕ → KeyGiven) → Option (List ℕ) → ℕ → ℕ
groups_if name key of_key code = option_map_or (λ _. group_count (key code)) of_key 0

abbrev pub shown_if : (ℕ → RealSet) → Typing → Keyed → Option (List ℕ) → ℕ → ℕ → ℕ → Shown
shown_if real typing keyed of_key code group mods = option_map_or (λ _. shown_for real typing (keyed.level_actions code) (keyed.key code) group mods) of_key nothing_shown
