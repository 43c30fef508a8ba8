-- What the fields of an indicator are given: the last of several that give one, and by mode.
use Rattle.std.specs.Prelude.{ℕ, List, Option, None, Some}
use Rattle.std.specs.Option.{option_and_then, option_map}
use Rattle.kx_merge.specs.Last.{last_given}
use Rattle.kx_indicators.specs.Given.{IndicatorMapValues}
use Rattle.kx_indicators.specs.declared.values.IndicatorMapField.{IndicatorMapField}
use Rattle.kx_indicators.specs.declared.values.IndicatorMapField.TheVariants as fields
use Rattle.kx_indicators.specs.declared.values.IndicatorMapValue.{IndicatorMapValue}
use Rattle.kx_indicators.specs.declared.values.IndicatorMapValue.TheVariants.{Modifiers, ModStates, GroupStates, Groups}

abbrev pub no_values : IndicatorMapValues
no_values = record { modifiers = None; mod_states = None; group_states = None; groups = None }

-- a field that is given anew has what it is given
abbrev pub with_value : IndicatorMapValues → Option IndicatorMapValue → IndicatorMapValues
with_value v None = v
with_value v (Some (Modifiers set)) = record v { modifiers = Some set }
with_value v (Some (ModStates states)) = record v { mod_states = Some states }
with_value v (Some (GroupStates states)) = record v { group_states = Some states }
with_value v (Some (Groups groups)) = record v { groups = Some groups }

-- a value alone
abbrev pub only : IndicatorMapValue → IndicatorMapValues
only value = with_value no_values (Some value)

module _ {X : Type 0} (gives : X → Option IndicatorMapValue) where
  -- each field has what the last gives that gives it anything, else what it had before them
  abbrev pub last_values : IndicatorMapValues → List X → IndicatorMapValues
  last_values before xs = record {
    modifiers = last_given (λ x. option_and_then (λ v. (only v).modifiers) (gives x)) before.modifiers xs;
    mod_states = last_given (λ x. option_and_then (λ v. (only v).mod_states) (gives x)) before.mod_states xs;
    group_states = last_given (λ x. option_and_then (λ v. (only v).group_states) (gives x)) before.group_states xs;
    groups = last_given (λ x. option_and_then (λ v. (only v).groups) (gives x)) before.groups xs;
  }

-- an indicator has a cell for each field
abbrev pub values_cell : IndicatorMapValues → IndicatorMapField → Option IndicatorMapValue
values_cell v fields.Modifiers = option_map Modifiers v.modifiers
values_cell v fields.ModStates = option_map ModStates v.mod_states
values_cell v fields.GroupStates = option_map GroupStates v.group_states
values_cell v fields.Groups = option_map Groups v.groups

-- ---- Under names, for proofs

abbrev pub value_modifiers : IndicatorMapValue → Option ℕ
value_modifiers value = (only value).modifiers

abbrev pub value_mod_states : IndicatorMapValue → Option ℕ
value_mod_states value = (only value).mod_states

abbrev pub value_group_states : IndicatorMapValue → Option ℕ
value_group_states value = (only value).group_states

abbrev pub value_groups : IndicatorMapValue → Option ℕ
value_groups value = (only value).groups
