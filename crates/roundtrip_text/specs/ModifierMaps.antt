-- The lines of printed modifier maps.
use Rattle.std.specs.Prelude.{ℕ, List, map}
use Rattle.kx_mods.specs.Mods.{mask, mod_names}
use Rattle.kx_print.specs.Masks.{chosen}
use Rattle.roundtrip_text.specs.Slices.{Slice}
use Rattle.roundtrip_text.specs.Source.{PrintedKey}
use Rattle.roundtrip_text.specs.Spelled.{modifier_map_slices}

-- a modifier, and the name of a key that is mapped to it
pub record MapLine : Type 0 where
  pub modifier : List ℕ
  pub name : List ℕ

abbrev pub map_line : List ℕ → List ℕ → MapLine
map_line name modifier = record { modifier = modifier; name = name }

-- a line for each modifier of a key
abbrev pub maps_of_key : PrintedKey → List MapLine
maps_of_key k = map (map_line k.name) (chosen (mask k.modmap) mod_names)

abbrev pub map_line_slices : MapLine → List Slice
map_line_slices l = modifier_map_slices l.name l.modifier
