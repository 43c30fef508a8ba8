-- What statements say of a key besides its lists: the types of its groups, its own type, the virtual modifiers that it bears,
-- and what becomes of groups that it doesn't have.
use Rattle.std.specs.Prelude.{ℕ, ◌+◌, ◌-◌, ◌==◌, ◌++◌, List, [], length, replicate, take, Option, None, Some, if◌then◌else◌}
use Rattle.std.specs.Option.{option_map}
use Rattle.kx_basics.specs.declared.limits.TheConstants.{MOST_NAME_BYTES}
use Rattle.kx_merge.specs.Bodies.{Moves}
use Rattle.kx_tables.specs.declared.rows.Range.{Range}
use Rattle.kx_key_fields.specs.declared.cells.AttributeCell.{AttributeCell}
use Rattle.kx_key_fields.specs.declared.cells.AttributeCell.TheVariants as cells
use Rattle.kx_key_fields.specs.declared.cells.AttributeValue.{AttributeValue}
use Rattle.kx_key_fields.specs.declared.cells.AttributeValue.TheVariants as values
use Rattle.kx_key_fields.specs.declared.given.Given.{Given}
use Rattle.kx_key_fields.specs.declared.given.Given.TheVariants as given
use Rattle.kx_merge.specs.ByGroup.{at_group, with_group, group_before}

pub record Settings : Type 0 where
  -- by group, counted from 0, the name of its type, where it is given one
  pub group_types : List (Option (List ℕ))
  pub key_type : Option (List ℕ)
  pub virtual_mods : Option ℕ
  pub range : Option Range

abbrev pub no_settings : Settings
no_settings = record { group_types = []; key_type = None; virtual_mods = None; range = None }

-- the value of a cell, where it has one
abbrev pub attribute_in : Settings → AttributeCell → Option AttributeValue
attribute_in s (cells.GroupType group) = option_map values.Type (at_group s.group_types group)
attribute_in s cells.KeyType = option_map values.Type s.key_type
attribute_in s cells.VirtualMods = option_map values.Mods s.virtual_mods
attribute_in s cells.Range = option_map values.Range s.range

-- of a longer name than a type may have one byte more is kept, so that no type has it
abbrev pub kept_name : List ℕ → List ℕ
kept_name name = take (MOST_NAME_BYTES + 1) name

-- what a field gives to a cell, where it is this one
abbrev pub given_to : AttributeCell → Given → Option AttributeValue
given_to (cells.GroupType group) (given.GroupType g name) = if group == g then Some (values.Type name) else None
given_to cells.KeyType (given.KeyType name) = Some (values.Type name)
given_to cells.VirtualMods (given.VirtualMods set) = Some (values.Mods set)
given_to cells.Range (given.Range range) = Some (values.Range range)
given_to _ _ = None

-- settings once a field gives something: its cell has what it gives, and the others what they had
abbrev pub with_given : Settings → Option Given → Settings
with_given s None = s
with_given s (Some (given.GroupType group name)) = record s { group_types = with_group s.group_types group name }
with_given s (Some (given.KeyType name)) = record s { key_type = Some name }
with_given s (Some (given.VirtualMods set)) = record s { virtual_mods = Some set }
with_given s (Some (given.Range range)) = record s { range = Some range }

-- where a map is moved to a group, what isn't about a group stays
abbrev pub attribute_before : ℕ → AttributeCell → Option AttributeCell
attribute_before n (cells.GroupType group) = option_map cells.GroupType (group_before n group)
attribute_before n cell = Some cell

-- of keys, whose records stay where they are
abbrev pub attribute_moves : Moves ℕ AttributeCell
attribute_moves = record { key = λ n k. Some k; cell = attribute_before; group = group_before }

-- ---- Under names, for clauses and proofs

abbrev pub GroupTypes : Type 0
GroupTypes = List (Option (List ℕ))

abbrev pub type_at : GroupTypes → ℕ → Option (List ℕ)
type_at types group = at_group types group

abbrev pub widened_to : ℕ → GroupTypes → GroupTypes
widened_to count types = types ++ replicate (count - length types) None

abbrev pub with_type : GroupTypes → ℕ → List ℕ → GroupTypes
with_type types group name = with_group types group name
