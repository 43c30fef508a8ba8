-- What records of indicators hold.
use Rattle.std.specs.Prelude.{ℕ, nat_eq}
use Rattle.std.specs.Option.{option_map_or}
use Rattle.indexmap.specs.IndexMap.{IndexMap, get}
use Rattle.kx_merge.specs.declared.plain.Plain.{Plain}
use Rattle.kx_indicators.specs.Given.{IndicatorMapValues}
use Rattle.kx_indicators.specs.Giving.{no_values}
use Rattle.kx_indicators.specs.IndicatorMaps.{IndicatorMap, indicator_map_with}

-- nothing is given where records have nothing
abbrev pub indicator_map_recorded : {S : Type 0} → IndexMap ℕ (Plain IndicatorMapValues) S → ℕ → IndicatorMap
indicator_map_recorded records number = indicator_map_with (option_map_or (λ (r : Plain IndicatorMapValues). r.values) (get nat_eq records number) no_values)
