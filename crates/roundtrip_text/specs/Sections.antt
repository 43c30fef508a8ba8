-- The tokens of the sections of a printed text, and of all of it.
use Rattle.std.specs.Prelude.{ℕ, List, [], ◌∷◌, ◌++◌, ◌==◌, codes, length, map, if◌then◌else◌}
use Rattle.std.specs.List.{flat_map}
use Rattle.kx_builder.specs.IndicatorMaps.{ResolvedIndicator}
use Rattle.kx_builder.specs.Resolved.{ResolvedType}
use Rattle.kx_tables.specs.Content.{Content}
use Rattle.roundtrip_text.specs.Slices.{Slice}
use Rattle.roundtrip_text.specs.Source.{NamedGroup, PrintedKey, indicators_printed, keys_printed, named_from, names_printed, types_printed}
use Rattle.roundtrip_text.specs.GroupNames.{name_statement_slices}
use Rattle.roundtrip_text.specs.Indicators.{indicator_statement_slices}
use Rattle.roundtrip_text.specs.Keys.{key_statement_slices}
use Rattle.roundtrip_text.specs.ModifierMaps.{MapLine, map_line_slices, maps_of_key}
use Rattle.roundtrip_text.specs.Spelled.{block_slices, key, mark, number, word}
use Rattle.roundtrip_text.specs.Types.{type_statement_slices}

abbrev pub keycode_statement_slices : PrintedKey → List Slice
keycode_statement_slices k = key k.name ∷ mark 61 ∷ number k.code ∷ mark 59 ∷ []

-- a statement of a symbols section
pub data SymbolsLine : Type 0 where
  OfName : NamedGroup → SymbolsLine
  OfKey : PrintedKey → SymbolsLine
  OfMap : MapLine → SymbolsLine

abbrev pub symbols_line_slices : SymbolsLine → List Slice
symbols_line_slices (OfName g) = name_statement_slices g
symbols_line_slices (OfKey k) = key_statement_slices k
symbols_line_slices (OfMap l) = map_line_slices l

abbrev pub section_slices : {X : Type 0} → List ℕ → (X → List Slice) → List X → List Slice
section_slices head slices xs = block_slices (word head ∷ []) (flat_map slices xs)

abbrev pub map_lines_printed : List PrintedKey → List MapLine
map_lines_printed ks = flat_map maps_of_key ks

abbrev pub symbols_lines : List NamedGroup → List PrintedKey → List MapLine → List SymbolsLine
symbols_lines gs ks ls = map OfName gs ++ (map OfKey ks ++ map OfMap ls)

-- there is no section of indicators without any
abbrev pub compat_slices : List ResolvedIndicator → List Slice
compat_slices ds = if length ds == 0 then [] else section_slices (codes "xkb_compat") indicator_statement_slices ds

abbrev pub source_slices : List PrintedKey → List ResolvedType → List ResolvedIndicator → List (List ℕ) → List Slice
source_slices ks ts ds gs =
    block_slices (word (codes "xkb_keymap") ∷ [])
    (section_slices (codes "xkb_keycodes") keycode_statement_slices ks
    ++ (section_slices (codes "xkb_types") type_statement_slices ts
    ++ (compat_slices ds
    ++ section_slices (codes "xkb_symbols") symbols_line_slices (symbols_lines (named_from 1 gs) ks (map_lines_printed ks)))))

abbrev pub printed_slices : Content → List Slice
printed_slices c = source_slices (keys_printed c) (types_printed c) (indicators_printed c) (names_printed c)
