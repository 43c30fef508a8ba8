-- The statements of indicators in a compat section: the names that they write, the defaults after them, and their faults.
use Rattle.std.specs.Prelude.{◌≡◌, ℕ, fold, Bool, List, [], ◌∷◌, ◌++◌, Option, None, Some, is_some, if◌then◌else◌, codes}
use Rattle.std.specs.List.{flat_map}
use Rattle.std.specs.Str.{str_eq_ignore_ascii_case}
use Rattle.std.specs.Option.{option_map, option_map_or, option_and_then}
use Rattle.kx_lex.specs.declared.fault.Fault.{Fault}
use Rattle.kx_lex.specs.declared.name.Name.{Name}
use Rattle.kx_lex.specs.declared.token.Span.{Span}
use Rattle.kx_tree.specs.declared.tree.Field.{Field}
use Rattle.kx_tree.specs.declared.tree.Statement.{Statement}
use Rattle.kx_tree.specs.declared.tree.Statement.TheVariants.{Field as FieldStatement, Indicator}
use Rattle.kx_indicators.specs.Given.{IndicatorMapValues}
use Rattle.kx_indicators.specs.Giving.{last_values, no_values, with_value}
use Rattle.kx_indicators.specs.IndicatorMapFields.{field_faults, field_value}
use Rattle.kx_indicators.specs.declared.values.IndicatorMapValue.{IndicatorMapValue}
use Rattle.kx_merge.specs.Faults.{name_faults}

-- the name and the fields of an indicator
abbrev pub indicator_in : Statement → Option (Name × List Field)
indicator_in (Indicator name fields) = Some (name, fields)
indicator_in _ = None

-- the word and the field of a default for indicators, as `indicator.groups = all;`
abbrev pub default_in : Statement → Option (Name × Field)
default_in (FieldStatement field) = option_map (λ member. (member, field)) (if str_eq_ignore_ascii_case field.place.word.bytes (codes "indicator") then field.place.member else None)
default_in _ = None

-- the name of the indicator that a statement is about
abbrev pub indicator_map_names : Statement → List (List ℕ)
indicator_map_names statement = option_map_or (λ i. i.0.bytes ∷ []) (indicator_in statement) []

-- ---- Defaults

-- `names` are the virtual modifiers by number
module _ (names : List (List ℕ)) where
  -- the defaults after one more statement
  abbrev pub next_default : IndicatorMapValues → Statement → IndicatorMapValues
  next_default d statement = with_value d (option_and_then (λ given. field_value names given.0 given.1) (default_in statement))

  -- a law, the clause `defaults` of `indicators`: the defaults after the statements of a section are what the last of them gives that gives a field
  -- anything
  abbrev pub DefaultsAreLast : Type 0
  DefaultsAreLast = (statements : List Statement) → fold next_default no_values statements ≡ last_values (λ s. option_and_then (λ given. field_value names given.0 given.1) (default_in s)) no_values statements

  -- what is written last in an indicator, else the default before it; a field of two words is read and not used
  abbrev pub values_of : IndicatorMapValues → List Field → IndicatorMapValues
  values_of d fields = last_values (λ field. if is_some field.place.member then None else field_value names field.place.word field) d fields

-- ---- Faults

module _ (file : ℕ) (names : List (List ℕ)) where
  abbrev pub own_faults : Field → List Fault
  own_faults field = if is_some field.place.member then [] else field_faults file names field.place.word field

  -- of an indicator or of a default for indicators; another statement has none here
  abbrev pub said_faults : Statement → Span → Option (Name × List Field) → List Fault
  said_faults statement whole i = option_map_or (λ i. name_faults file whole i.0 ++ flat_map own_faults i.1) i (option_map_or (λ g. field_faults file names g.0 g.1) (default_in statement) [])

-- ---- Under names, for clauses and proofs

abbrev pub given_of : Field → Option Name → Option (Name × Field)
given_of field member = option_map (λ m. (m, field)) member

abbrev pub given_value : List (List ℕ) → Option (Name × Field) → Option IndicatorMapValue
given_value names given = option_and_then (λ g. field_value names g.0 g.1) given

abbrev pub written_name : Option (Name × List Field) → List (List ℕ)
written_name i = option_map_or (λ i. i.0.bytes ∷ []) i []

abbrev pub is_indicator : List ℕ → Bool
is_indicator word = str_eq_ignore_ascii_case word (codes "indicator")

abbrev pub member_of : Field → Option Name
member_of field = if str_eq_ignore_ascii_case field.place.word.bytes (codes "indicator") then field.place.member else None

abbrev pub own_value : (names : List (List ℕ)) → Field → Option IndicatorMapValue
own_value names field = if is_some field.place.member then None else field_value names field.place.word field

abbrev pub default_faults : (file : ℕ) → (names : List (List ℕ)) → Option (Name × Field) → List Fault
default_faults file names given = option_map_or (λ g. field_faults file names g.0 g.1) given []
