-- What is read of codes, keys, types and modifier maps.
use Rattle.std.specs.Prelude.{ℕ, List, map}
use Rattle.kx_codes.specs.Codes.{Codes, name_of}
use Rattle.kx_virtual_mods.specs.Sets.{has}
use Rattle.kx_modmaps.specs.Maps.{Maps, key_mask, shown_entry}
use Rattle.kx_symbols.specs.Keys.{KeyContent, key_at}
use Rattle.kx_keys.specs.Given.{given_in}
use Rattle.kx_keys.specs.Typing.{Typing}
use Rattle.kx_keys.specs.Mapping.{Mapping}

abbrev pub mapping_of : Codes → Typing → List (ℕ × KeyContent) → Maps → Mapping
mapping_of codes typing keys maps = record {
  name = name_of codes;
  key = λ code. given_in (key_at keys code);
  typing = typing;
  key_maps = λ code. has (key_mask maps code);
  keysym_maps = map shown_entry maps.by_keysym;
}
