-- The types of groups as they are made out once: of each its place among the types in use, and how many levels it has.
use Rattle.std.specs.Prelude.{◌≡◌, ◌<◌, ◌%◌, ◌^◌, ℕ, zero, suc, All, List, [], ◌∷◌, ◌++◌, get_or, map, true}
use Rattle.std.specs.List.{list_any}
use Rattle.std.specs.Str.{bytes_eq}
use Rattle.kx_builder.specs.Resolved.{ResolvedGroup}
use Rattle.kx_keys.specs.Bounds.{CellsAreValid}
use Rattle.kx_keys.specs.Given.{KeyGiven}
use Rattle.kx_keys.specs.GroupTypes.{content_group, type_definition}
use Rattle.kx_keys.specs.Keys.{cells_of, type_place}
use Rattle.kx_keys.specs.LevelActions.{LevelActions}
use Rattle.kx_keys.specs.Typing.{Typing}
use Rattle.kx_virtual_mods.specs.Counted.{with_names}

pub record TypeInUse : Type 0 where
  pub place : ℕ
  pub levels : ℕ

-- `typing` tells the types of groups
module _ (typing : Typing) where
  -- a type of so many levels at a place
  abbrev pub type_at : ℕ → List ℕ → TypeInUse
  type_at place name = record { place = place; levels = (type_definition typing name).levels }

  -- `used` are the types by their places
  abbrev pub type_in_use : List (List ℕ) → List ℕ → TypeInUse
  type_in_use used name = type_at (type_place used name) name

  -- what is made out of the types that groups have in turn: those in use, each once in the order of first use, and the type
  -- of each group; places are numbers of 16 bits
  pub record AreUsed (names used : List (List ℕ)) (group_types : List TypeInUse) : Type 0 where
    pub used_are : used ≡ with_names [] names
    pub types_are : group_types ≡ map (λ name. type_at (type_place used name % 2 ^ 16) name) names
    pub there : All (λ name. list_any (bytes_eq name) used ≡ true) names

-- in place of a type that isn't there
abbrev pub no_type : TypeInUse
no_type = record { place = 0; levels = 0 }

module _ (level_actions : LevelActions) (key : KeyGiven) where
  abbrev pub typed_group : ℕ → TypeInUse → ResolvedGroup
  typed_group group group_type = record { key_type = group_type.place; cells = cells_of level_actions key (content_group key group) group_type.levels }

  -- the groups of so many types, in order
  unfoldable pub typed_groups : List TypeInUse → ℕ → List ResolvedGroup
  typed_groups group_types zero = []
  typed_groups group_types (suc n) = typed_groups group_types n ++ typed_group n (get_or group_types n no_type) ∷ []

  abbrev pub TypedAreValid : List TypeInUse → ℕ → Type 0
  TypedAreValid group_types n = (group : ℕ) → group < n → CellsAreValid level_actions key (content_group key group) (get_or group_types group no_type).levels
