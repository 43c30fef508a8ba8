-- What the statements of a keymap give its keys, by the values of their cells and the widths of their groups.
use Rattle.std.specs.Prelude.{ℕ, List, Option, None, Some, unwrap_or}
use Rattle.kx_actions.specs.declared.action.KeyAction.{KeyAction}
use Rattle.kx_key_fields.specs.declared.cells.AttributeCell.TheVariants as settings
use Rattle.kx_key_fields.specs.declared.cells.AttributeValue.TheVariants as said
use Rattle.kx_symbols.specs.Keys.{KeyContent, cell_in_any, width_in_any}
use Rattle.kx_symbols.specs.declared.cells.Cell.{Cell}
use Rattle.kx_symbols.specs.declared.cells.Cell.TheVariants as cells
use Rattle.kx_symbols.specs.declared.cells.CellValue.{CellValue}
use Rattle.kx_symbols.specs.declared.cells.CellValue.TheVariants as values
use Rattle.kx_tables.specs.declared.rows.Range.{Range}
use Rattle.kx_tables.specs.declared.rows.Range.TheVariants.{Wrap}

-- what the statements of a key give it; groups and levels are counted from 0
pub record KeyGiven : Type 0 where
  -- by group and level
  pub keysyms : ℕ → ℕ → Option (List ℕ)
  pub action : ℕ → ℕ → Option KeyAction
  -- how many levels the lists of a group have
  pub width : ℕ → ℕ
  -- the names of the types that are written for a group, and for the key
  pub group_type : ℕ → Option (List ℕ)
  pub key_type : Option (List ℕ)
  -- the virtual modifiers that are written for it
  pub virtual_mods : Option ℕ
  -- what becomes of a group that it doesn't have: without a word it is taken modulo
  pub range : Range

-- ---- What a cell's value is

abbrev pub keysyms_of : Option CellValue → Option (List ℕ)
keysyms_of (Some (values.Keysyms keysyms)) = Some keysyms
keysyms_of _ = None

abbrev pub action_of : Option CellValue → Option KeyAction
action_of (Some (values.Action action)) = Some action
action_of _ = None

abbrev pub name_of : Option CellValue → Option (List ℕ)
name_of (Some (values.Setting (said.Type name))) = Some name
name_of _ = None

abbrev pub set_of : Option CellValue → Option ℕ
set_of (Some (values.Setting (said.Mods set))) = Some set
set_of _ = None

abbrev pub range_of : Option CellValue → Option Range
range_of (Some (values.Setting (said.Range range))) = Some range
range_of _ = None

abbrev pub given_by : (Cell → Option CellValue) → (ℕ → ℕ) → KeyGiven
given_by value width = record {
  keysyms = λ group level. keysyms_of (value (cells.Keysyms group level));
  action = λ group level. action_of (value (cells.Action group level));
  width = width;
  group_type = λ group. name_of (value (cells.Setting (settings.GroupType group)));
  key_type = name_of (value (cells.Setting settings.KeyType));
  virtual_mods = set_of (value (cells.Setting settings.VirtualMods));
  range = unwrap_or (range_of (value (cells.Setting settings.Range))) Wrap;
}

-- a key that no statement names has no groups
abbrev pub given_in : Option KeyContent → KeyGiven
given_in key = given_by (cell_in_any key) (width_in_any key)

abbrev pub given : KeyContent → KeyGiven
given key = given_in (Some key)
