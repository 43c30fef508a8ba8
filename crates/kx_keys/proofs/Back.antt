-- The value of a cell is what was put there.
use Rattle.std.proofs.Common.{◌≡◌, ℕ, List, Option, None, Some, refl}
use Rattle.std.specs.Option.{option_map}
use Rattle.kx_actions.specs.declared.action.KeyAction.{KeyAction}
use Rattle.kx_key_fields.specs.declared.cells.AttributeValue.TheVariants as said
use Rattle.kx_symbols.specs.declared.cells.CellValue.TheVariants as values
use Rattle.kx_tables.specs.declared.rows.Range.{Range}
use Rattle.kx_keys.specs.Given.{action_of, keysyms_of, name_of, range_of, set_of}

pub keysyms_back : (o : Option (List ℕ)) → keysyms_of (option_map values.Keysyms o) ≡ o
keysyms_back None = refl
keysyms_back (Some keysyms) = refl

pub action_back : (o : Option KeyAction) → action_of (option_map values.Action o) ≡ o
action_back None = refl
action_back (Some action) = refl

pub name_back : (o : Option (List ℕ)) → name_of (option_map values.Setting (option_map said.Type o)) ≡ o
name_back None = refl
name_back (Some name) = refl

pub set_back : (o : Option ℕ) → set_of (option_map values.Setting (option_map said.Mods o)) ≡ o
set_back None = refl
set_back (Some set) = refl

pub range_back : (o : Option Range) → range_of (option_map values.Setting (option_map said.Range o)) ≡ o
range_back None = refl
range_back (Some range) = refl
