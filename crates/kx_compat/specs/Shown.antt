-- What records of interpretations hold.
use Rattle.std.specs.Option.{option_map_or}
use Rattle.indexmap.specs.IndexMap.{IndexMap, get}
use Rattle.kx_merge.specs.declared.plain.Plain.{Plain}
use Rattle.kx_compat.specs.Interpretations.{Interpretation}
use Rattle.kx_compat.specs.SameMatch.{same_match}
use Rattle.kx_compat.specs.declared.interpretation_match.InterpretationMatch.{InterpretationMatch}
use Rattle.kx_compat.specs.Given.{FieldValues}
use Rattle.kx_compat.specs.Giving.{interpretation_with, no_values}

-- nothing is given where records have nothing
abbrev pub interpretation_recorded : {S : Type 0} → IndexMap InterpretationMatch (Plain FieldValues) S → InterpretationMatch → Interpretation
interpretation_recorded records interpretation_match = interpretation_with interpretation_match (option_map_or (λ (r : Plain FieldValues). r.values) (get same_match records interpretation_match) no_values)
