-- Tables with one more indicator, or one more name of a group, after all others.
use Rattle.std.specs.Prelude.{ℕ, ◌<◌, ◌^◌, List, [], ◌∷◌, ◌++◌, length}
use Rattle.kx_builder.specs.IndicatorMaps.{ResolvedIndicator}
use Rattle.kx_tables.specs.Content.{Content}
use Rattle.kx_tables.specs.declared.rows.GroupNameRow.{GroupNameRow}
use Rattle.kx_tables.specs.declared.rows.IndicatorRow.{IndicatorRow}

abbrev pub next_indicator : Content → ResolvedIndicator → IndicatorRow
next_indicator c d = record {
  mods = d.mods;
  mod_states = d.mod_states;
  group_states = d.group_states;
  groups = d.groups;
  name_length = length d.name;
  first_name = length c.names;
}

abbrev pub indicator_added : Content → ResolvedIndicator → Content
indicator_added c d = record c { indicators = c.indicators ++ next_indicator c d ∷ []; names = c.names ++ d.name }

abbrev pub next_group_name : Content → List ℕ → GroupNameRow
next_group_name c g = record { name_length = length g; first_name = length c.names }

abbrev pub group_name_added : Content → List ℕ → Content
group_name_added c g = record c { group_names = c.group_names ++ next_group_name c g ∷ []; names = c.names ++ g }

-- the numbers of a row fit, where its name stands after all others
pub record NameFits (c : Content) (name : List ℕ) : Type 0 where
  pub length_fits : length name < 2 ^ 16
  pub first : length c.names < 2 ^ 32
