-- The interpretations that the statements of a compat body declare.
use Rattle.std.specs.Prelude.{ℕ, false, List, [], map, Option, unwrap_or}
use Rattle.std.specs.Option.{option_and_then, option_map_or}
use Rattle.ks_core.specs.Table.{KeysymTable}
use Rattle.kx_include.specs.Expansion.{Body}
use Rattle.kx_lex.specs.declared.fault.Fault.{Fault}
use Rattle.kx_merge.specs.Bodies.{Rules, faults_of, offers_of, no_moves}
use Rattle.kx_merge.specs.Offers.{Offer, names_of, offers_to, value_of}
use Rattle.kx_tree.specs.declared.tree.Mode.{Mode}
use Rattle.kx_compat.specs.Interpretations.{Interpretation}
use Rattle.kx_compat.specs.SameMatch.{same_match}
use Rattle.kx_compat.specs.declared.interpretation_match.InterpretationMatch.{InterpretationMatch}
use Rattle.kx_compat.specs.Sections.{Interpreted, interpretation_in, next_default, no_defaults, stated_faults, values_of}
use Rattle.kx_symbols.specs.Keys.{field_in}
use Rattle.kx_compat.specs.Matches.{match_of}
use Rattle.kx_compat.specs.Giving.{values_cell, only}
use Rattle.kx_compat.specs.declared.defaults.CompatDefaults.{CompatDefaults}
use Rattle.kx_compat.specs.declared.values.Cell.{Cell}
use Rattle.kx_compat.specs.declared.values.Cell.TheVariants as cells
use Rattle.kx_compat.specs.declared.values.FieldValue.{FieldValue}

abbrev pub InterpretationOffer : Type 0
InterpretationOffer = Offer InterpretationMatch Cell FieldValue

-- `table` are the names of keysyms, `names` the virtual modifiers by number
module _ (table : KeysymTable) (names : List (List ℕ)) where
  -- an interpretation of an unknown keysym offers nothing
  abbrev pub said_offers : CompatDefaults → Mode → Option Interpreted → List InterpretationOffer
  said_offers d mode i = option_map_or (λ i. offers_to values_cell mode (values_of names d i.2) (match_of table i.0 i.1)) i []

  abbrev pub compat_rules : Rules InterpretationMatch Cell FieldValue CompatDefaults
  compat_rules = record {
    start = no_defaults;
    next = λ d stated. next_default names d (field_in stated.statement);
    offers = λ d place stated. said_offers d stated.mode (interpretation_in stated.statement);
    faults = λ d place stated. stated_faults place.file names stated;
  }

-- what offers make of an interpretation, each field by precedence; without `useModMapMods` it sees the modifiers of its key at any level
abbrev pub interpretation_by : List InterpretationOffer → InterpretationMatch → Interpretation
interpretation_by os interpretation_match = record {
  interpretation_match = interpretation_match;
  action = option_and_then (λ v. (only v).action) (value_of same_match os interpretation_match cells.Action);
  modifier = option_and_then (λ v. (only v).modifier) (value_of same_match os interpretation_match cells.Modifier);
  first_level_only = unwrap_or (option_and_then (λ v. (only v).first_level_only) (value_of same_match os interpretation_match cells.Levels)) false;
}

module _ (table : KeysymTable) (names : List (List ℕ)) (body : Body) where
  abbrev pub interpretation_offers : List InterpretationOffer
  interpretation_offers = offers_of same_match (compat_rules table names) no_moves body

  -- in the order of first appearance, hidden or not
  abbrev pub interpretations_of : List Interpretation
  interpretations_of = map (interpretation_by interpretation_offers) (names_of same_match interpretation_offers)

  abbrev pub compat_faults : List Fault
  compat_faults = faults_of same_match (compat_rules table names) no_moves body
