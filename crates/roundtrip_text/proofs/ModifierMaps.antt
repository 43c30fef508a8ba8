-- How printed modifier maps are read.
use Rattle.std.proofs.Common.{◌≡◌, ℕ, true, List, [], ◌∷◌, map, refl}
use Rattle.std.proofs.lemmas.Bool.{and_parts}
use Rattle.std.specs.List.{list_all, flat_map}
use Rattle.kx_basics.specs.KeyNames.{is_key_byte}
use Rattle.kx_mods.specs.Mods.{mask, mod_names}
use Rattle.kx_print.specs.Masks.{chosen}
use Rattle.kx_print.specs.Printed.{modifier_map_line, modifier_map_lines}
use Rattle.kx_tables.specs.Content.{Content, key_name}
use Rattle.kx_tables.specs.declared.rows.KeyRow.{KeyRow}
use Rattle.roundtrip_text.specs.Slices.{Lexes}
use Rattle.roundtrip_text.proofs.Lexing.{nothing_lexes, then_lexes}
use Rattle.roundtrip_text.specs.Source.{EachOf, PrintedKey, KeyFits, key_printed}
use Rattle.roundtrip_text.specs.ModifierMaps.{MapLine, map_line, maps_of_key, map_line_slices}
use Rattle.roundtrip_text.proofs.Lines.{is_text_word, chosen_all}
use Rattle.roundtrip_text.proofs.Blocks.{modifier_map_lexes}

pub record MapLineFits (l : MapLine) : Type 0 where
  pub name : list_all is_key_byte l.name ≡ true
  pub modifier : is_text_word l.modifier ≡ true

mod_words : list_all is_text_word mod_names ≡ true
unfolding mod_names
mod_words = refl

lines_fit : (name : List ℕ) (modifiers : List (List ℕ)) → list_all is_key_byte name ≡ true → list_all is_text_word modifiers ≡ true → EachOf MapLineFits (map (map_line name) modifiers)
lines_fit name [] bytes words = tt
lines_fit name (m ∷ ms) bytes words = let both = and_parts (is_text_word m) (list_all is_text_word ms) words in (record { name = bytes; modifier = both.0 }, lines_fit name ms bytes both.1)

pub maps_fit : (k : PrintedKey) → KeyFits k → EachOf MapLineFits (maps_of_key k)
maps_fit k fits = lines_fit k.name (chosen (mask k.modmap) mod_names) fits.bytes (chosen_all is_text_word (mask k.modmap) mod_names mod_words)

lines_lex : (name : List ℕ) (modifiers : List (List ℕ)) → EachOf MapLineFits (map (map_line name) modifiers) → Lexes (flat_map (modifier_map_line name) modifiers) (flat_map map_line_slices (map (map_line name) modifiers))
lines_lex name [] all = nothing_lexes
lines_lex name (m ∷ ms) all = then_lexes (modifier_map_lexes name m all.0.name all.0.modifier) (lines_lex name ms all.1)

pub map_lines_lex : (c : Content) (k : KeyRow) → KeyFits (key_printed c k) → Lexes (modifier_map_lines c k) (flat_map map_line_slices (maps_of_key (key_printed c k)))
unfolding modifier_map_lines
map_lines_lex c k fits = lines_lex (key_name c k) (chosen (mask k.modmap) mod_names) (maps_fit (key_printed c k) fits)
