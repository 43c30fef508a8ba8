-- What lights the indicators of a keymap, over sets of real modifiers.
use Rattle.std.specs.Prelude.{ℕ, List, map}
use Rattle.std.specs.List.{zip}
use Rattle.kx_builder.specs.IndicatorMaps.{ResolvedIndicator}
use Rattle.kx_indicators.specs.IndicatorMaps.{IndicatorMap}
use Rattle.kx_indicators.specs.Meaning.{Indicators}
use Rattle.kx_keys.specs.Rows.{mods_of}
use Rattle.kx_keys.specs.Selecting.{RealSet}
use Rattle.kx_tables.specs.declared.rows.States.{States}

-- the states whose bits are those of a number
abbrev pub states_of : ℕ → States
states_of bits = record { 0 = bits }

-- `real` is what a set of modifiers stands for
module _ (real : ℕ → RealSet) where
  abbrev pub indicator_lit : List ℕ → IndicatorMap → ResolvedIndicator
  indicator_lit name indicator_map = record {
    name = name;
    mods = mods_of (real indicator_map.modifiers);
    mod_states = states_of indicator_map.mod_states;
    group_states = states_of indicator_map.group_states;
    groups = indicator_map.groups;
  }

  -- by number
  abbrev pub indicators_of : Indicators → List ResolvedIndicator
  indicators_of is = map (λ (i : List ℕ × IndicatorMap). indicator_lit i.0 i.1) (zip is.names is.indicator_maps)
