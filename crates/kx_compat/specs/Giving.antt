-- What the fields of an interpretation are given: the last of several that give one, and by mode.
use Rattle.std.specs.Prelude.{Bool, false, ℕ, List, Option, None, Some, unwrap_or}
use Rattle.std.specs.Option.{option_and_then, option_map}
use Rattle.kx_merge.specs.Last.{last_given}
use Rattle.kx_actions.specs.declared.action.KeyAction.{KeyAction}
use Rattle.kx_compat.specs.Interpretations.{Interpretation}
use Rattle.kx_compat.specs.declared.interpretation_match.InterpretationMatch.{InterpretationMatch}
use Rattle.kx_compat.specs.declared.values.Cell.{Cell}
use Rattle.kx_compat.specs.declared.values.Cell.TheVariants as cells
use Rattle.kx_compat.specs.declared.values.FieldValue.{FieldValue}
use Rattle.kx_compat.specs.declared.values.FieldValue.TheVariants.{Action, Modifier, FirstLevelOnly}
use Rattle.kx_compat.specs.Given.{FieldValues}

abbrev pub no_values : FieldValues
no_values = record { action = None; modifier = None; first_level_only = None }

-- a field that is given anew has what it is given
abbrev pub with_value : FieldValues → Option FieldValue → FieldValues
with_value v None = v
with_value v (Some (Action action)) = record v { action = Some action }
with_value v (Some (Modifier number)) = record v { modifier = Some number }
with_value v (Some (FirstLevelOnly only)) = record v { first_level_only = Some only }

-- a value alone
abbrev pub only : FieldValue → FieldValues
only value = with_value no_values (Some value)

module _ {X : Type 0} (gives : X → Option FieldValue) where
  -- each field has what the last gives that gives it anything, else what it had before them
  abbrev pub last_values : FieldValues → List X → FieldValues
  last_values before xs = record {
    action = last_given (λ x. option_and_then (λ v. (only v).action) (gives x)) before.action xs;
    modifier = last_given (λ x. option_and_then (λ v. (only v).modifier) (gives x)) before.modifier xs;
    first_level_only = last_given (λ x. option_and_then (λ v. (only v).first_level_only) (gives x)) before.first_level_only xs;
  }

-- an interpretation has a cell for each field
abbrev pub values_cell : FieldValues → Cell → Option FieldValue
values_cell v cells.Action = option_map Action v.action
values_cell v cells.Modifier = option_map Modifier v.modifier
values_cell v cells.Levels = option_map FirstLevelOnly v.first_level_only

-- without `useModMapMods` it sees the modifiers of its key at any level
abbrev pub interpretation_with : InterpretationMatch → FieldValues → Interpretation
interpretation_with interpretation_match values = record { interpretation_match = interpretation_match; action = values.action; modifier = values.modifier; first_level_only = unwrap_or values.first_level_only false }

-- ---- Under names, for proofs

abbrev pub value_action : FieldValue → Option KeyAction
value_action value = (only value).action

abbrev pub value_modifier : FieldValue → Option ℕ
value_modifier value = (only value).modifier

abbrev pub value_first_level_only : FieldValue → Option Bool
value_first_level_only value = (only value).first_level_only
