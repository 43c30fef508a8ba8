-- What tables need of the names of keys and of their keysyms.
use Rattle.std.specs.Prelude.{ℕ, ◌≡◌, ◌<◌, ◌≤◌, ◌^◌, All, List, [], ◌∷◌, Option, Some, length}
use Rattle.kx_keys.specs.Given.{KeyGiven}
use Rattle.kx_keys.specs.GroupTypes.{content_group, group_count, group_type_name, type_definition}
use Rattle.kx_mods.specs.Mods.{mask}
use Rattle.kx_mods.specs.declared.mods.Mods.{Mods}
use Rattle.kx_keys.specs.LevelActions.{LevelActions}
use Rattle.kx_keys.specs.Keys.{Keyed, cell_of, type_of}
use Rattle.kx_tables.specs.Sound.{RangeHolds}
use Rattle.kx_builder.specs.Valid.{CellIsValid, TypeIsValid}
use Rattle.kx_builder.specs.Pushes.{last_groups}
use Rattle.kx_builder.specs.Resolved.{ResolvedCell, ResolvedGroup, ResolvedKey}
use Rattle.kx_keys.specs.Rows.{RowsShow}
use Rattle.kx_keys.specs.Selecting.{RealSet}
use Rattle.kx_basics.specs.KeyNames.{IsKeyByte}
use Rattle.kx_keys.specs.Typing.{Typing}
use Rattle.kx_basics.specs.declared.limits.TheConstants.{MOST_NAME_BYTES}

-- the cells of a group's levels below a number
abbrev pub CellsAreValid : LevelActions → KeyGiven → ℕ → ℕ → Type 0
CellsAreValid level_actions key group n = (level : ℕ) → level < n → CellIsValid (cell_of level_actions key group level)

module _ (typing : Typing) where
  abbrev pub levels_of_group : KeyGiven → ℕ → ℕ
  levels_of_group key group = (type_definition typing (group_type_name typing key group)).levels

  -- those of the groups below a number
  abbrev pub GroupsAreValid : LevelActions → KeyGiven → ℕ → Type 0
  GroupsAreValid level_actions key n = (group : ℕ) → group < n → CellsAreValid level_actions key (content_group key group) (levels_of_group key group)

  pub record KeepsBounds (name : List ℕ) (modmap : Mods) (level_actions : LevelActions) (key : KeyGiven) : Type 0 where
    pub short : length name ≤ MOST_NAME_BYTES
    pub bytes : All IsKeyByte name
    pub mapped : mask modmap < 2 ^ 8
    pub range : RangeHolds key.range
    pub cells : GroupsAreValid level_actions key (group_count key)

  -- each key of a code below a number does
  abbrev pub BoundsBelow : Keyed → ℕ → Type 0
  BoundsBelow keyed n = (code : ℕ) → code < n → (of_key : List ℕ) → keyed.name code ≡ Some of_key → KeepsBounds of_key (keyed.modmap code) (keyed.level_actions code) (keyed.key code)

-- a name is that of one code
abbrev pub OneCode : (ℕ → Option (List ℕ)) → Type 0
OneCode name = (code other : ℕ) (of_key : List ℕ) → name code ≡ Some of_key → name other ≡ Some of_key → code ≡ other

-- ---- What holds of a type that is used

module _ (real : ℕ → RealSet) (typing : Typing) where
  -- its rows show what it gives, and keep the rules of tables
  pub record TypeHolds (name : List ℕ) : Type 0 where
    pub shows : RowsShow real (type_definition typing name) (type_of real typing name).mods (type_of real typing name).entries
    pub valid : TypeIsValid (type_of real typing name)

-- ---- The levels that were pushed last

abbrev pub last_cells_of : List ResolvedGroup → List ResolvedCell
last_cells_of [] = []
last_cells_of (g ∷ []) = g.cells
last_cells_of (g ∷ h ∷ gs) = last_cells_of (h ∷ gs)

abbrev pub last_cells : List ResolvedKey → List ResolvedCell
last_cells ks = last_cells_of (last_groups ks)
