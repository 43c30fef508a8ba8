-- What keys resolve to, by what their statements give them: the types that they use, and the keys by code.
use Rattle.std.specs.Prelude.{ℕ, zero, suc, List, [], ◌∷◌, ◌++◌, Option, None, Some, map, position, unwrap_or}
use Rattle.std.specs.Str.{bytes_eq}
use Rattle.kx_builder.specs.Resolved.{Resolved, ResolvedCell, ResolvedGroup, ResolvedKey, ResolvedType}
use Rattle.kx_keys.specs.Rows.{entry_rows, mods_of}
use Rattle.kx_keys.specs.Selecting.{RealSet}
use Rattle.kx_virtual_mods.specs.Counted.{with_names}
use Rattle.kx_mods.specs.declared.mods.Mods.{Mods}
use Rattle.kx_keys.specs.LevelActions.{LevelActions, level_actions_of}
use Rattle.kx_compat.specs.Interpretations.{Interpretation}
use Rattle.kx_symbols.specs.Keys.{KeyContent, key_at}
use Rattle.kx_codes.specs.Codes.{Codes, name_of}
use Rattle.kx_keys.specs.Given.{KeyGiven, given_in}
use Rattle.kx_keys.specs.GroupTypes.{content_group, group_count, group_type_name, type_definition}
use Rattle.kx_types.specs.KeyTypes.{Definition}
use Rattle.kx_keys.specs.Typing.{Typing}
use Rattle.kx_basics.specs.declared.limits.TheConstants.{CODES}

-- ---- Types; `real` is what a set of modifiers stands for, `typing` tells the types of groups

module _ (real : ℕ → RealSet) where
  abbrev pub type_with : List ℕ → Definition → ResolvedType
  type_with name type = record { name = name; mods = mods_of (real type.modifiers); levels = type.levels; entries = entry_rows real type.entries }

  abbrev pub type_of : Typing → List ℕ → ResolvedType
  type_of typing name = type_with name (type_definition typing name)

module _ (typing : Typing) where
  -- the types' names of a number of groups of a key, in order
  unfoldable pub type_names : KeyGiven → ℕ → List (List ℕ)
  type_names key zero = []
  type_names key (suc n) = type_names key n ++ group_type_name typing key n ∷ []

  -- a code without a name is no key
  abbrev pub type_names_if : Option (List ℕ) → KeyGiven → List (List ℕ)
  type_names_if None key = []
  type_names_if (Some name) key = type_names key (group_count key)

  module _ (name : ℕ → Option (List ℕ)) (key : ℕ → KeyGiven) where
    -- those of the keys of the codes below a number
    unfoldable pub type_names_below : ℕ → List (List ℕ)
    type_names_below zero = []
    type_names_below (suc code) = type_names_below code ++ type_names_if (name code) (key code)

    -- each once, in the order of first use
    unfoldable pub types_used : List (List ℕ)
    types_used = with_names [] (type_names_below CODES)

-- ---- Keys

-- `level_actions` are what the levels of the key do
module _ (level_actions : LevelActions) (key : KeyGiven) where
  abbrev pub cell_of : ℕ → ℕ → ResolvedCell
  cell_of group level = record { syms = unwrap_or (key.keysyms group level) []; action = level_actions group level }

  -- the cells of a group's levels below a number: what is after the levels of its type is lost
  unfoldable pub cells_of : ℕ → ℕ → List ResolvedCell
  cells_of group zero = []
  cells_of group (suc level) = cells_of group level ++ cell_of group level ∷ []

-- `used` are the types by their places
abbrev pub type_place : List (List ℕ) → List ℕ → ℕ
type_place used name = unwrap_or (position (bytes_eq name) used) 0

module _ (typing : Typing) (used : List (List ℕ)) (level_actions : LevelActions) (key : KeyGiven) where
  abbrev pub resolved_group : ℕ → ResolvedGroup
  resolved_group group = record {
    key_type = type_place used (group_type_name typing key group);
    cells = cells_of level_actions key (content_group key group) (type_definition typing (group_type_name typing key group)).levels;
  }

  -- the groups of a number of them, in order
  unfoldable pub groups_of : ℕ → List ResolvedGroup
  groups_of zero = []
  groups_of (suc n) = groups_of n ++ resolved_group n ∷ []

  -- `modmap` are the real modifiers that the key is mapped to
  abbrev pub key_of : ℕ → List ℕ → Mods → ResolvedKey
  key_of code name modmap = record { code = code; name = name; modmap = modmap; range = key.range; groups = groups_of (group_count key) }

  abbrev pub key_if_named : ℕ → Option (List ℕ) → Mods → List ResolvedKey
  key_if_named code None modmap = []
  key_if_named code (Some name) modmap = key_of code name modmap ∷ []

-- a keymap's keys by code: their names, what statements give them, the modifiers that they are mapped to, and what their
-- levels do
pub record Keyed : Type 0 where
  pub name : ℕ → Option (List ℕ)
  pub key : ℕ → KeyGiven
  pub modmap : ℕ → Mods
  pub level_actions : ℕ → LevelActions

module _ (typing : Typing) (used : List (List ℕ)) (keyed : Keyed) where
  -- the keys of the codes below a number, in order
  unfoldable pub keys_below : ℕ → List ResolvedKey
  keys_below zero = []
  keys_below (suc code) = keys_below code ++ key_if_named typing used (keyed.level_actions code) (keyed.key code) code (keyed.name code) (keyed.modmap code)

-- ---- All together

module _ (real : ℕ → RealSet) (typing : Typing) (keyed : Keyed) where
  unfoldable pub resolved_of : Resolved
  resolved_of = record {
    types = map (type_of real typing) (types_used typing keyed.name keyed.key);
    keys = keys_below typing (types_used typing keyed.name keyed.key) keyed CODES;
  }

-- ---- What was read of codes and keys

-- `modmap` are the real modifiers that the keys of codes are mapped to
abbrev pub keyed_of : (ℕ → RealSet) → Codes → List (ℕ × KeyContent) → (ℕ → Mods) → List Interpretation → Keyed
keyed_of real codes keys modmap interpretations = record {
  name = name_of codes;
  key = λ code. given_in (key_at keys code);
  modmap = modmap;
  level_actions = λ code. level_actions_of real interpretations (modmap code) (given_in (key_at keys code));
}
