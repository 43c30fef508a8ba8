-- The faults of the statements of a types section.
use Rattle.std.specs.Prelude.{ℕ, Bool, true, false, List, [], ◌∷◌, ◌++◌, Option, None, Some, if◌then◌else◌}
use Rattle.std.specs.List.{flat_map}
use Rattle.std.specs.Option.{option_map_or}
use Rattle.kx_include.specs.IncludeFaults.{at}
use Rattle.kx_lex.specs.declared.fault.Fault.{Fault}
use Rattle.kx_lex.specs.declared.fault.Fault.TheVariants.{UnknownField}
use Rattle.kx_lex.specs.declared.name.Name.{Name}
use Rattle.kx_tree.specs.Sections.{word_span}
use Rattle.kx_tree.specs.declared.tree.Field.{Field}
use Rattle.kx_tree.specs.declared.tree.Stated.{Stated}
use Rattle.kx_tree.specs.declared.tree.Statement.{Statement}
use Rattle.kx_tree.specs.declared.tree.Statement.TheVariants.{KeyType, VirtualModifiers}
use Rattle.kx_types.specs.TypeFields.{field_faults}
use Rattle.kx_merge.specs.Faults.{name_faults}

-- the name and the fields of a type statement
abbrev pub type_in : Statement → Option (Name × List Field)
type_in (KeyType name fields) = Some (name, fields)
type_in _ = None

abbrev pub declares_modifiers : Statement → Bool
declares_modifiers (VirtualModifiers declarations) = true
declares_modifiers _ = false

-- `names` are the virtual modifiers by number
module _ (names : List (List ℕ)) (file : ℕ) where
  -- virtual modifiers may be declared beside types, and nothing else
  abbrev pub other_faults : Stated → List Fault
  other_faults stated = if declares_modifiers stated.statement then [] else UnknownField (at file (word_span stated)) ∷ []

  -- those of a statement in a file
  abbrev pub stated_faults : Stated → List Fault
  stated_faults stated = option_map_or (λ t. name_faults file stated.span t.0 ++ flat_map (field_faults names file) t.1) (type_in stated.statement) (other_faults stated)
