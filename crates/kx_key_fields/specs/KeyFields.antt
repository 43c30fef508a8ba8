-- What the fields of a key statement, and the default statements before it in its section, say of the key besides its lists.
use Rattle.std.specs.Prelude.{ℕ, ◌||◌, List, [], ◌∷◌, fold, Option, None, is_some, if◌then◌else◌}
use Rattle.std.specs.List.{flat_map}
use Rattle.std.specs.Option.{option_and_then, option_map_or}
use Rattle.kx_include.specs.IncludeFaults.{at}
use Rattle.kx_lex.specs.declared.fault.Fault.{Fault}
use Rattle.kx_lex.specs.declared.fault.Fault.TheVariants.{UnknownField}
use Rattle.kx_lex.specs.declared.name.Name.{Name}
use Rattle.kx_tree.specs.declared.tree.Field.{Field}
use Rattle.kx_tree.specs.declared.tree.KeyField.{KeyField}
use Rattle.kx_tree.specs.declared.tree.KeyField.TheVariants as keys
use Rattle.kx_merge.specs.Last.{last_given}
use Rattle.kx_key_fields.specs.AttributeFields.{named_faults, named_given}
use Rattle.kx_key_fields.specs.Attributes.{Settings, given_to, no_settings, attribute_in, with_given}
use Rattle.kx_key_fields.specs.Words.{is_key_word, is_list_word}
use Rattle.kx_key_fields.specs.declared.cells.AttributeCell.{AttributeCell}
use Rattle.kx_key_fields.specs.declared.cells.AttributeValue.{AttributeValue}
use Rattle.kx_key_fields.specs.declared.given.Given.{Given}

module _ (names : List (List ℕ)) where
  abbrev pub key_given : KeyField → Option Given
  key_given (keys.Field field) = if is_some field.place.member || is_list_word field.place.word.bytes then None else named_given names field.place.word field
  key_given (keys.List list) = None

  -- what a field of a section gives keys as a default: `key.F`
  abbrev pub default_given : Field → Option Given
  default_given field = if is_key_word field.place.word.bytes then option_and_then (λ member. named_given names member field) field.place.member else None

  abbrev pub cell_default : AttributeCell → Field → Option AttributeValue
  cell_default cell field = option_and_then (given_to cell) (default_given field)

  -- the defaults after one more statement of a section, and after all of them
  abbrev pub next_defaults : Settings → Field → Settings
  next_defaults d field = with_given d (default_given field)

  abbrev pub defaults_after : List Field → Settings
  defaults_after statements = fold next_defaults no_settings statements

  -- a cell has the value that is written last in the statement, else its default
  abbrev pub effective : Settings → List KeyField → AttributeCell → Option AttributeValue
  effective defaults fields cell = last_given (λ field. option_and_then (given_to cell) (key_given field)) (attribute_in defaults cell) fields

module _ (file : ℕ) (names : List (List ℕ)) where
  -- a field of lists is another's to judge
  abbrev pub own_faults : Field → List Fault
  own_faults field =
      if is_some field.place.member then UnknownField (at file field.place.word.span) ∷ []
      else (if is_list_word field.place.word.bytes then [] else named_faults file names field.place.word field)

  abbrev pub key_field_faults : KeyField → List Fault
  key_field_faults (keys.Field field) = own_faults field
  key_field_faults (keys.List list) = []

  abbrev pub setting_faults : List KeyField → List Fault
  setting_faults fields = flat_map key_field_faults fields

  abbrev pub member_faults : Field → Option Name → List Fault
  member_faults field member = option_map_or (λ m. named_faults file names m field) member (UnknownField (at file field.place.word.span) ∷ [])

  -- of a field of a section as a default for keys
  abbrev pub default_faults : Field → List Fault
  default_faults field = if is_key_word field.place.word.bytes then member_faults field field.place.member else UnknownField (at file field.place.word.span) ∷ []

-- ---- Under names, for clauses and proofs

abbrev pub cell_given : (names : List (List ℕ)) → AttributeCell → KeyField → Option AttributeValue
cell_given names cell field = option_and_then (given_to cell) (key_given names field)

abbrev pub own_given : (names : List (List ℕ)) → Field → Option Given
own_given names field = if is_some field.place.member || is_list_word field.place.word.bytes then None else named_given names field.place.word field
