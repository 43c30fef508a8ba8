-- Indicators: what lights them.
use Rattle.std.specs.Prelude.{ℕ, unwrap_or}
use Rattle.kx_indicators.specs.Given.{IndicatorMapValues}

-- an indicator is lit by modifiers of the states named, or by groups of the states named, of which bit 0 is group 1
pub record IndicatorMap : Type 0 where
  pub modifiers : ℕ
  pub mod_states : ℕ
  pub group_states : ℕ
  pub groups : ℕ

-- 8 is the effective state
abbrev pub indicator_map_with : IndicatorMapValues → IndicatorMap
indicator_map_with v = record { modifiers = unwrap_or v.modifiers 0; mod_states = unwrap_or v.mod_states 8; group_states = unwrap_or v.group_states 8; groups = unwrap_or v.groups 0 }
