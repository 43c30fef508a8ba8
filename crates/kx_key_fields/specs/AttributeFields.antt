-- What a field of a key says that isn't a list, and its faults; `names` are the virtual modifiers by number.
use Rattle.std.specs.Prelude.{ℕ, Bool, true, false, List, [], ◌∷◌, ◌++◌, Option, None, Some, is_some, if◌then◌else◌}
use Rattle.std.specs.Option.{option_and_then, option_map}
use Rattle.kx_include.specs.IncludeFaults.{at}
use Rattle.kx_lex.specs.declared.fault.Fault.{Fault}
use Rattle.kx_lex.specs.declared.fault.Fault.TheVariants.{BadValue, UnknownField}
use Rattle.kx_lex.specs.declared.name.Name.{Name}
use Rattle.kx_lex.specs.declared.token.Span.{Span}
use Rattle.kx_tree.specs.declared.tree.Expression.{Expression}
use Rattle.kx_tree.specs.declared.tree.Field.{Field}
use Rattle.kx_tree.specs.declared.tree.Index.{Index}
use Rattle.kx_tree.specs.declared.tree.Setting.{Setting}
use Rattle.kx_tree.specs.declared.tree.Setting.TheVariants.{Off, On, To}
use Rattle.kx_tree.specs.declared.tree.Term.{Term}
use Rattle.kx_tree.specs.declared.tree.Value.TheVariants.{Expression as Expressed}
use Rattle.kx_tables.specs.declared.rows.Range.{Range}
use Rattle.kx_tables.specs.declared.rows.Range.TheVariants as ranges
use Rattle.kx_merge.specs.Faults.{expression_in, value_faults}
use Rattle.kx_merge.specs.Numbers.{number_faults}
use Rattle.kx_merge.specs.Words.{meaning_among, truth_words, lone_text, term_text as lone_term_text}
use Rattle.kx_merge.specs.declared.numbers.Counted.TheVariants.{Group}
use Rattle.kx_key_lists.specs.Groups.{group_at}
use Rattle.kx_key_fields.specs.Attributes.{kept_name}
use Rattle.kx_key_fields.specs.VirtualMasks.{virtual_mask, virtual_mask_faults}
use Rattle.kx_key_fields.specs.Words.{field_named}
use Rattle.kx_key_fields.specs.declared.given.Given.{Given}
use Rattle.kx_key_fields.specs.declared.given.Given.TheVariants as gives
use Rattle.kx_key_fields.specs.declared.words.RangeField.{RangeField}
use Rattle.kx_key_fields.specs.declared.words.RangeField.TheVariants as words
use Rattle.kx_key_fields.specs.declared.words.AttributeField.{AttributeField}
use Rattle.kx_key_fields.specs.declared.words.AttributeField.TheVariants as fields

-- a type is named by one text
abbrev pub text_of : Expression → Option (List ℕ)
text_of e = option_map kept_name (lone_text e)

-- a field without a value is true, with `!` false
abbrev pub truth_in : Setting → Option Bool
truth_in Off = Some false
truth_in On = Some true
truth_in (To (Expressed e)) = meaning_among truth_words e
truth_in (To _) = None

abbrev pub name_in : Setting → Option (List ℕ)
name_in s = option_and_then text_of (expression_in s)

-- with an index the type is a group's, without one the key's
abbrev pub type_given : Option Index → Setting → Option Given
type_given None s = option_map gives.KeyType (name_in s)
type_given (Some index) s = option_and_then (λ group. option_map (gives.GroupType group) (name_in s)) (group_at index.value)

-- false means the other of the two
abbrev pub range_in : RangeField → Setting → Option Range
range_in words.Wrap s = option_map (λ b. if b then ranges.Wrap else ranges.Clamp) (truth_in s)
range_in words.Clamp s = option_map (λ b. if b then ranges.Clamp else ranges.Wrap) (truth_in s)
range_in words.Redirect s = option_map ranges.Redirect (option_and_then group_at (expression_in s))

-- what is read of a field that may give nothing
abbrev pub given_any : Option (Option Given) → Option Given
given_any o = option_and_then (λ given. given) o

module _ (names : List (List ℕ)) where
  -- only a type takes an index
  abbrev pub field_given : Option AttributeField → Option Index → Setting → Option Given
  field_given (Some fields.KeyType) index s = type_given index s
  field_given (Some fields.VirtualMods) index s = if is_some index then None else option_map gives.VirtualMods (option_and_then (virtual_mask names) (expression_in s))
  field_given (Some (fields.Range which)) index s = if is_some index then None else option_map gives.Range (range_in which s)
  field_given (Some fields.Unused) index s = None
  field_given None index s = None

  -- what a field gives whose word is this one: its own, or the one after the point of a default
  abbrev pub named_given : Name → Field → Option Given
  named_given word field = field_given (field_named word.bytes) field.place.index field.setting

module _ (file : ℕ) where
  abbrev pub text_faults : Expression → List Fault
  text_faults e = if is_some (text_of e) then [] else BadValue (at file e.span) ∷ []

  abbrev pub truth_faults : Expression → List Fault
  truth_faults e = if is_some (meaning_among truth_words e) then [] else BadValue (at file e.span) ∷ []

  abbrev pub flag_faults : Span → Setting → List Fault
  flag_faults whole Off = []
  flag_faults whole On = []
  flag_faults whole (To value) = value_faults file truth_faults whole (To value)

  abbrev pub index_faults : Option Index → List Fault
  index_faults None = []
  index_faults (Some index) = number_faults file Group index.value

  abbrev pub type_faults : Field → List Fault
  type_faults field = index_faults field.place.index ++ value_faults file text_faults field.span field.setting

  abbrev pub range_faults : RangeField → Field → List Fault
  range_faults words.Wrap field = flag_faults field.span field.setting
  range_faults words.Clamp field = flag_faults field.span field.setting
  range_faults words.Redirect field = value_faults file (number_faults file Group) field.span field.setting

  abbrev pub no_index_faults : Name → Option Index → List Fault
  no_index_faults word index = if is_some index then UnknownField (at file word.span) ∷ [] else []

  module _ (names : List (List ℕ)) where
    abbrev pub mods_faults : Field → List Fault
    mods_faults field = value_faults file (virtual_mask_faults names file) field.span field.setting

    abbrev pub field_faults : Name → Field → Option AttributeField → List Fault
    field_faults word field (Some fields.KeyType) = type_faults field
    field_faults word field (Some fields.VirtualMods) = no_index_faults word field.place.index ++ mods_faults field
    field_faults word field (Some (fields.Range which)) = no_index_faults word field.place.index ++ range_faults which field
    field_faults word field (Some fields.Unused) = []
    field_faults word field None = UnknownField (at file word.span) ∷ []

    -- of a field whose word is this one
    abbrev pub named_faults : Name → Field → List Fault
    named_faults word field = field_faults word field (field_named word.bytes)

-- ---- Under names, for clauses

abbrev pub wrap_if : Bool → Range
wrap_if b = if b then ranges.Wrap else ranges.Clamp

abbrev pub clamp_if : Bool → Range
clamp_if b = if b then ranges.Clamp else ranges.Wrap

abbrev pub term_text : Term → Option (List ℕ)
term_text term = option_map kept_name (lone_term_text term)

abbrev pub mods_in : (names : List (List ℕ)) → Setting → Option ℕ
mods_in names s = option_and_then (virtual_mask names) (expression_in s)
