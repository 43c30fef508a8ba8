-- The fields of a symbols section that name groups, and their faults.
use Rattle.std.specs.Prelude.{ℕ, nat_lt, List, [], ◌∷◌, ◌++◌, length, Option, None, Some, if◌then◌else◌}
use Rattle.std.specs.Option.{option_and_then, option_map_or}
use Rattle.kx_basics.specs.declared.limits.TheConstants.{MOST_NAME_BYTES}
use Rattle.kx_include.specs.IncludeFaults.{at}
use Rattle.kx_lex.specs.declared.fault.Fault.{Fault}
use Rattle.kx_lex.specs.declared.fault.Fault.TheVariants.{BadValue, TooMany, UnknownField}
use Rattle.kx_lex.specs.declared.name.Name.{Name}
use Rattle.kx_lex.specs.declared.token.Span.{Span}
use Rattle.kx_tree.specs.declared.tree.Expression.{Expression}
use Rattle.kx_tree.specs.declared.tree.Field.{Field}
use Rattle.kx_tree.specs.declared.tree.Index.{Index}
use Rattle.kx_tree.specs.declared.tree.Setting.{Setting}
use Rattle.kx_tree.specs.declared.tree.Stated.{Stated}
use Rattle.kx_tree.specs.declared.tree.Statement.{Statement}
use Rattle.kx_tree.specs.declared.tree.Statement.TheVariants as statements
use Rattle.kx_key_fields.specs.Words.{is_group_name}
use Rattle.kx_merge.specs.Faults.{expression_in, value_faults}
use Rattle.kx_merge.specs.Numbers.{number_at, number_faults}
use Rattle.kx_merge.specs.Words.{lone_text}
use Rattle.kx_merge.specs.declared.numbers.Counted.TheVariants.{Group}

abbrev pub name_in : Statement → Option Field
name_in (statements.Field field) = if is_group_name field.place then Some field else None
name_in _ = None

-- a name is one text
abbrev pub set_text : Setting → Option (List ℕ)
set_text s = option_and_then lone_text (expression_in s)

module _ (file : ℕ) where
  abbrev pub index_faults : Name → Option Index → List Fault
  index_faults word index = option_map_or (λ i. number_faults file Group i.value) index (UnknownField (at file word.span) ∷ [])

  abbrev pub expression_faults : Span → Expression → List Fault
  expression_faults whole e = option_map_or (λ t. if nat_lt MOST_NAME_BYTES (length t) then TooMany (at file whole) ∷ [] else []) (lone_text e) (BadValue (at file e.span) ∷ [])

  abbrev pub field_faults : Span → Field → List Fault
  field_faults whole field = index_faults field.place.word field.place.index ++ value_faults file (expression_faults whole) field.span field.setting

  -- those of a field that names a group; those of other statements are none of these
  abbrev pub stated_faults : Stated → List Fault
  stated_faults stated = option_map_or (field_faults stated.span) (name_in stated.statement) []

-- ---- Under names, for clauses

-- a group is counted from 1
abbrev pub indexed_group : Option Index → Option ℕ
indexed_group index = option_and_then (λ i. number_at Group i.value) index

abbrev pub named_faults : ℕ → Span → Option Field → List Fault
named_faults file whole field = option_map_or (field_faults file whole) field []

abbrev pub text_faults : (file : ℕ) → Span → Span → Option (List ℕ) → List Fault
text_faults file whole span text = option_map_or (λ t. if nat_lt MOST_NAME_BYTES (length t) then TooMany (at file whole) ∷ [] else []) text (BadValue (at file span) ∷ [])
