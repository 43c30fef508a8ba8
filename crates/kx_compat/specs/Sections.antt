-- What the statements of a compat section say of interpretations, the defaults after them, for interpretations and for actions, and
-- their faults. Virtual modifiers and indicators are judged elsewhere; a group statement is read and not used.
use Rattle.std.specs.Prelude.{◌≡◌, ℕ, fold, option_to_list, Bool, true, false, List, [], ◌∷◌, ◌++◌, Option, None, Some, is_some, if◌then◌else◌, codes}
use Rattle.std.specs.List.{flat_map}
use Rattle.std.specs.Str.{str_eq_ignore_ascii_case}
use Rattle.std.specs.Option.{option_and_then, option_map_or}
use Rattle.kx_actions.specs.Defaults.{default_faults, defaults_after, next_defaults, no_defaults as no_action_defaults}
use Rattle.kx_actions.specs.declared.defaults.ActionDefaults.{ActionDefaults}
use Rattle.kx_include.specs.IncludeFaults.{at}
use Rattle.kx_lex.specs.declared.fault.Fault.{Fault}
use Rattle.kx_lex.specs.declared.fault.Fault.TheVariants.{UnknownField}
use Rattle.kx_lex.specs.declared.name.Name.{Name}
use Rattle.kx_lex.specs.declared.token.Span.{Span}
use Rattle.kx_tree.specs.Sections.{word_span}
use Rattle.kx_tree.specs.declared.tree.Field.{Field}
use Rattle.kx_tree.specs.declared.tree.Predicate.{Predicate}
use Rattle.kx_tree.specs.declared.tree.Stated.{Stated}
use Rattle.kx_tree.specs.declared.tree.Statement.{Statement}
use Rattle.kx_tree.specs.declared.tree.Statement.TheVariants as statements
use Rattle.kx_tree.specs.declared.tree.Symbol.{Symbol}
use Rattle.kx_symbols.specs.KeyFaults.{symbol_faults}
use Rattle.kx_compat.specs.FieldWords.{field_faults, field_value}
use Rattle.kx_compat.specs.Matches.{predicate_faults}
use Rattle.kx_compat.specs.Giving.{last_values, no_values, with_value}
use Rattle.kx_compat.specs.declared.defaults.CompatDefaults.{CompatDefaults}
use Rattle.kx_compat.specs.declared.values.FieldValue.{FieldValue}
use Rattle.kx_compat.specs.Given.{FieldValues}
use Rattle.kx_symbols.specs.Keys.{field_in}

-- ---- Statements

abbrev pub Interpreted : Type 0
Interpreted = Symbol × Option Predicate × List Field

abbrev pub interpretation_in : Statement → Option Interpreted
interpretation_in (statements.Interpretation symbol predicate fields) = Some (symbol, predicate, fields)
interpretation_in _ = None

-- statements but fields that say nothing of interpretations
abbrev pub is_other : Statement → Bool
is_other (statements.VirtualModifiers declarations) = true
is_other (statements.Indicator name fields) = true
is_other (statements.Group number mask) = true
is_other _ = false

abbrev pub is_interpret : List ℕ → Bool
is_interpret word = str_eq_ignore_ascii_case word (codes "interpret")

-- ---- Defaults: fields as `interpret.repeat = no;` and `setMods.clearLocks = yes;`

abbrev pub no_defaults : CompatDefaults
no_defaults = record { actions = no_action_defaults; values = no_values }

-- `names` are the virtual modifiers by number
module _ (names : List (List ℕ)) where
  -- what a statement gives as a default for interpretations, where it is one, under the defaults for actions before it
  abbrev pub given_value : ActionDefaults → Option Field → Option FieldValue
  given_value actions field = option_and_then (λ f. if is_interpret f.place.word.bytes then option_and_then (λ m. field_value names actions m f) f.place.member else None) field

  -- the defaults after one more statement, where it is a field
  abbrev pub next_default : CompatDefaults → Option Field → CompatDefaults
  next_default d field = record { actions = option_map_or (next_defaults names d.actions) field d.actions; values = with_value d.values (given_value d.actions field) }

  -- statements, each with the defaults for actions before it
  abbrev pub standing : ActionDefaults → List Statement → List (ActionDefaults × Statement)
  standing actions [] = []
  standing actions (s ∷ ss) = (actions, s) ∷ standing (option_map_or (next_defaults names actions) (field_in s) actions) ss

  -- a law, a clause of `interpretations`: the defaults after the statements of a section are what the last of them gives that gives a
  -- field anything
  pub record DefaultsAreLast : Type 0 where
    pub actions_are : (ss : List Statement) → (fold (λ d s. next_default d (field_in s)) no_defaults ss).actions ≡ defaults_after names (flat_map (λ s. option_to_list (field_in s)) ss)
    pub values_are : (ss : List Statement) → (fold (λ d s. next_default d (field_in s)) no_defaults ss).values ≡ last_values (λ s. given_value s.0 (field_in s.1)) no_values (standing no_action_defaults ss)

  -- what is written last in an interpretation, else the default before it
  abbrev pub values_of : CompatDefaults → List Field → FieldValues
  values_of d fields = last_values (λ field. if is_some field.place.member then None else field_value names d.actions field.place.word field) d.values fields

-- ---- Faults

module _ (file : ℕ) (names : List (List ℕ)) where
  abbrev pub unknown_word : Name → List Fault
  unknown_word word = UnknownField (at file word.span) ∷ []

  -- of a field in an interpretation
  abbrev pub own_faults : Field → List Fault
  own_faults field = if is_some field.place.member then unknown_word field.place.word else field_faults file names field.place.word field

  abbrev pub interpretation_faults : Interpreted → List Fault
  interpretation_faults i = symbol_faults file i.0 ++ predicate_faults file names i.1 ++ flat_map own_faults i.2

  -- of a field that stands alone; one of `indicator` is judged with indicators, one of another word is a default for an action
  abbrev pub lone_faults : Field → List Fault
  lone_faults field =
      if is_interpret field.place.word.bytes then option_map_or (λ m. field_faults file names m field) field.place.member (unknown_word field.place.word)
      else (if str_eq_ignore_ascii_case field.place.word.bytes (codes "indicator") then if is_some field.place.member then [] else unknown_word field.place.word
      else default_faults file names field)

  -- of a statement that is no interpretation; `word` is what a fault of an unknown one names
  abbrev pub alone_faults : Statement → Span → Option Field → List Fault
  alone_faults statement word field = option_map_or lone_faults field (if is_other statement then [] else UnknownField (at file word) ∷ [])

  -- those of a statement in a file
  abbrev pub stated_faults : Stated → List Fault
  stated_faults stated = option_map_or interpretation_faults (interpretation_in stated.statement) (alone_faults stated.statement (word_span stated) (field_in stated.statement))

-- ---- Under names, for clauses and proofs

abbrev pub given_actions : List (List ℕ) → ActionDefaults → Option Field → ActionDefaults
given_actions names actions field = option_map_or (next_defaults names actions) field actions

abbrev pub is_indicator : List ℕ → Bool
is_indicator word = str_eq_ignore_ascii_case word (codes "indicator")

abbrev pub member_faults : (file : ℕ) → (names : List (List ℕ)) → Field → Option Name → List Fault
member_faults file names field member = option_map_or (λ m. field_faults file names m field) member (unknown_word file names field.place.word)

abbrev pub own_value : (names : List (List ℕ)) → CompatDefaults → Field → Option FieldValue
own_value names d field = if is_some field.place.member then None else field_value names d.actions field.place.word field
