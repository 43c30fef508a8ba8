-- Where tables give one of some keysyms.
use Rattle.std.specs.Prelude.{ℕ, ◌≡◌, ◌+◌, ◌<◌, List, Some, slice_get}
use Rattle.std.specs.List.{Contains}
use Rattle.kx_tables.specs.Content.{Content}
use Rattle.kx_tables.specs.declared.rows.CellRow.{CellRow}
use Rattle.kx_tables.specs.declared.rows.GroupRow.{GroupRow}
use Rattle.kx_tables.specs.declared.rows.KeyRow.{KeyRow}
use Rattle.kx_tables.specs.declared.rows.TypeRow.{TypeRow}
use Rattle.kx_text.specs.declared.finding.Spot.{Spot}

-- a cell gives a keysym that is wanted, alone or with others
pub record CellGives (c : Content) (wanted : List ℕ) (cell : CellRow) : Type 0 where
  pub index : ℕ
  pub within : index < cell.keysyms
  pub keysym : ℕ
  pub is_wanted : Contains wanted keysym
  pub is_keysym : slice_get c.keysyms (cell.first_keysym + index) ≡ Some keysym

-- a group gives a keysym that is wanted at a level, counted from 0
pub record LevelGives (c : Content) (wanted : List ℕ) (group : GroupRow) (level : ℕ) : Type 0 where
  pub cell : CellRow
  pub has_cell : slice_get c.cells (group.first_cell + level) ≡ Some cell
  pub gives : CellGives c wanted cell

-- a spot is a level of this group of a key, which has so many, and gives a keysym that is wanted there
pub record IsLevelOf (c : Content) (wanted : List ℕ) (row : GroupRow) (levels : ℕ) (key group : ℕ) (spot : Spot) : Type 0 where
  pub is_key : spot.key ≡ key
  pub is_group : spot.group ≡ group
  pub within : spot.level < levels
  pub gives : LevelGives c wanted row spot.level

-- a key gives a keysym that is wanted in a group and at a level, both counted from 0
pub record Gives (c : Content) (wanted : List ℕ) (spot : Spot) : Type 0 where
  pub key : KeyRow
  pub has_key : slice_get c.keys spot.key ≡ Some key
  pub within : spot.group < key.groups
  pub row : GroupRow
  pub has_row : slice_get c.groups (key.first_group + spot.group) ≡ Some row
  pub key_type : TypeRow
  pub has_type : slice_get c.types row.key_type ≡ Some key_type
  pub is_level : IsLevelOf c wanted row key_type.levels spot.key spot.group spot
