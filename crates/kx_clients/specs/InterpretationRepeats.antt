-- Whether the keys of an interpretation repeat: the field `repeat` of the statements of a compat body, and its default
-- `interpret.repeat`.
use Rattle.std.specs.Prelude.{ℕ, Bool, false, List, [], ◌++◌, Option, None, is_some, unwrap_or, if◌then◌else◌, codes}
use Rattle.std.specs.Option.{option_and_then, option_map_or, option_or}
use Rattle.std.specs.Str.{str_eq_ignore_ascii_case}
use Rattle.ks_core.specs.Table.{KeysymTable}
use Rattle.kx_compat.specs.Matches.{match_of, predicate_faults}
use Rattle.kx_compat.specs.SameMatch.{same_match}
use Rattle.kx_compat.specs.Sections.{Interpreted, interpretation_in, is_interpret}
use Rattle.kx_symbols.specs.Keys.{field_in}
use Rattle.kx_compat.specs.declared.interpretation_match.InterpretationMatch.{InterpretationMatch}
use Rattle.kx_include.specs.Expansion.{Body}
use Rattle.kx_key_fields.specs.AttributeFields.{truth_in}
use Rattle.kx_lex.specs.declared.fault.Fault.{Fault}
use Rattle.kx_lex.specs.declared.name.Name.{Name}
use Rattle.kx_merge.specs.Bodies.{Rules, faults_of, no_moves, offers_of}
use Rattle.kx_merge.specs.Last.{last_given}
use Rattle.kx_merge.specs.Offers.{Offer, offers_to, value_of}
use Rattle.kx_tree.specs.declared.tree.Field.{Field}
use Rattle.kx_tree.specs.declared.tree.Mode.{Mode}
use Rattle.kx_tree.specs.declared.tree.Statement.{Statement}
use Rattle.kx_symbols.specs.KeyFaults.{symbol_faults}

-- what a field says whose word is this one; with an index it says nothing
abbrev pub named_truth : Name → Field → Option Bool
named_truth word field = if is_some field.place.index then None else (if str_eq_ignore_ascii_case word.bytes (codes "repeat") then truth_in field.setting else None)

abbrev pub field_truth : Field → Option Bool
field_truth field = if is_some field.place.member then None else named_truth field.place.word field

-- what a field of a section gives interpretations as a default: `interpret.repeat`
abbrev pub default_truth : Field → Option Bool
default_truth field = if is_interpret field.place.word.bytes then option_and_then (λ member. named_truth member field) field.place.member else None

-- the default after a statement
abbrev pub next_truth : Option Bool → Statement → Option Bool
next_truth d statement = option_or (option_and_then default_truth (field_in statement)) d

abbrev pub TruthOffer : Type 0
TruthOffer = Offer InterpretationMatch (Unit {0}) Bool

-- `names` are the virtual modifiers by number
module _ (names : List (List ℕ)) where
  -- of the keysym and the condition of an interpretation
  abbrev pub said_faults : ℕ → Option Interpreted → List Fault
  said_faults file i = option_map_or (λ i. symbol_faults file i.0 ++ predicate_faults file names i.1) i []

-- `table` are the names of keysyms, `names` the virtual modifiers by number
module _ (table : KeysymTable) (names : List (List ℕ)) where
  -- an interpretation gives what its last such field says, else the default before it
  abbrev pub truth_offers : Option Bool → Mode → Option Interpreted → List TruthOffer
  truth_offers d mode i = option_map_or (λ i. offers_to (λ said (cell : Unit {0}). said) mode (last_given field_truth d i.2) (match_of table i.0 i.1)) i []

  abbrev pub truth_rules : Rules InterpretationMatch (Unit {0}) Bool (Option Bool)
  truth_rules = record {
    start = None;
    next = λ d stated. next_truth d stated.statement;
    offers = λ d place stated. truth_offers d stated.mode (interpretation_in stated.statement);
    faults = λ d place stated. said_faults names place.file (interpretation_in stated.statement);
  }

  -- whether the keys of an interpretation repeat, by precedence; where a compat body doesn't say so, they don't
  abbrev pub match_repeats : Body → InterpretationMatch → Bool
  match_repeats body interpretation_match = unwrap_or (value_of same_match (offers_of same_match truth_rules no_moves body) interpretation_match tt) false

-- ---- Under names, for clauses

abbrev pub all_match_faults : KeysymTable → List (List ℕ) → Body → List Fault
all_match_faults table names body = faults_of same_match (truth_rules table names) no_moves body
