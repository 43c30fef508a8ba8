-- The indicators that the statements of a compat body declare.
use Rattle.std.specs.Prelude.{◌≡◌, ℕ, ◌<◌, ◌≤◌, nat_eq, List, [], ◌++◌, length, position, slice_get, Option, Some}
use Rattle.std.specs.Option.{option_and_then, option_map_or}
use Rattle.std.specs.Str.{bytes_eq}
use Rattle.kx_include.specs.Expansion.{Body}
use Rattle.kx_lex.specs.declared.fault.Fault.{Fault}
use Rattle.kx_lex.specs.declared.name.Name.{Name}
use Rattle.kx_virtual_mods.specs.Counted.{count_faults, names_of, statements_of}
use Rattle.kx_merge.specs.Bodies.{Rules, faults_of, offers_of, no_moves}
use Rattle.kx_merge.specs.Offers.{Offer, offers_to, value_of}
use Rattle.kx_tree.specs.declared.tree.Field.{Field}
use Rattle.kx_tree.specs.declared.tree.Mode.{Mode}
use Rattle.kx_indicators.specs.Blocks.{indicator_in, indicator_map_names, next_default, said_faults, values_of}
use Rattle.kx_indicators.specs.Given.{IndicatorMapValues}
use Rattle.kx_indicators.specs.IndicatorMaps.{IndicatorMap, indicator_map_with}
use Rattle.kx_indicators.specs.Giving.{no_values, values_cell, only}
use Rattle.kx_indicators.specs.declared.values.IndicatorMapField.{IndicatorMapField}
use Rattle.kx_indicators.specs.declared.values.IndicatorMapField.TheVariants as fields
use Rattle.kx_indicators.specs.declared.values.IndicatorMapValue.{IndicatorMapValue}
use Rattle.kx_indicators.specs.declared.limits.TheConstants.{MOST_INDICATORS}

-- indicators are numbered from 0 in the order in which they are first named
abbrev pub IndicatorMapOffer : Type 0
IndicatorMapOffer = Offer ℕ IndicatorMapField IndicatorMapValue

-- `indicator_maps` are the names of indicators, `names` the virtual modifiers, both by number
module _ (indicator_maps names : List (List ℕ)) where
  abbrev pub said_offers : IndicatorMapValues → Mode → Option (Name × List Field) → List IndicatorMapOffer
  said_offers d mode i = option_map_or (λ i. offers_to values_cell mode (values_of names d i.1) (position (bytes_eq i.0.bytes) indicator_maps)) i []

  abbrev pub indicator_map_rules : Rules ℕ IndicatorMapField IndicatorMapValue IndicatorMapValues
  indicator_map_rules = record {
    start = no_values;
    next = λ d stated. next_default names d stated.statement;
    offers = λ d place stated. said_offers d stated.mode (indicator_in stated.statement);
    faults = λ d place stated. said_faults place.file names stated.statement stated.span (indicator_in stated.statement);
  }

-- the names in the order of first appearance, hidden or not
abbrev pub indicator_names : Body → List (List ℕ)
indicator_names body = names_of indicator_map_names (statements_of body)

module _ (names : List (List ℕ)) (body : Body) where
  abbrev pub indicator_map_offers : List IndicatorMapOffer
  indicator_map_offers = offers_of nat_eq (indicator_map_rules (indicator_names body) names) no_moves body

  -- each field by precedence; undefined masks are none, undefined states are the effective one
  abbrev pub indicator_map_of : ℕ → IndicatorMap
  indicator_map_of number = indicator_map_with (record {
    modifiers = option_and_then (λ v. (only v).modifiers) (value_of nat_eq indicator_map_offers number fields.Modifiers);
    mod_states = option_and_then (λ v. (only v).mod_states) (value_of nat_eq indicator_map_offers number fields.ModStates);
    group_states = option_and_then (λ v. (only v).group_states) (value_of nat_eq indicator_map_offers number fields.GroupStates);
    groups = option_and_then (λ v. (only v).groups) (value_of nat_eq indicator_map_offers number fields.Groups);
  })

  -- the statement with which there are too many, and the faults of the statements
  abbrev pub indicator_maps_faults : List Fault
  indicator_maps_faults = count_faults indicator_map_names MOST_INDICATORS (statements_of body) ++ faults_of nat_eq (indicator_map_rules (indicator_names body) names) no_moves body

-- indicators by number
pub record Indicators : Type 0 where
  pub names : List (List ℕ)
  pub indicator_maps : List IndicatorMap

-- those that a body declares, with the virtual modifiers by number
pub record AreIndicators (is : Indicators) (names : List (List ℕ)) (body : Body) : Type 0 where
  pub names_are : is.names ≡ indicator_names body
  pub few : length is.names ≤ MOST_INDICATORS
  pub as_many : length is.indicator_maps ≡ length is.names
  pub indicator_maps_are : (number : ℕ) → number < length is.names → slice_get is.indicator_maps number ≡ Some (indicator_map_of names body number)
