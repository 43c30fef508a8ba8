-- How the sections of a printed text are read, and all of it.
use Rattle.std.proofs.Common.{◌≡◌, ℕ, ◌==◌, cond, Bool, true, false, List, [], ◌∷◌, ◌++◌, length, map, codes, refl, sym, ap, ap₂, ◌∙◌, subst, arith}
use Rattle.std.proofs.lemmas.List.{length-map}
use Rattle.std.proofs.lemmas.Grind.{flat_map-append}
use Rattle.std.specs.List.{flat_map}
use Rattle.kx_print.specs.Phrases.{block, numbered}
use Rattle.kx_print.specs.Printed.{compat_section, group_name_line, indicator_block, key_block, keycode_line, keycodes_section, modifier_map_lines, printed, symbols_section, type_block, types_section}
use Rattle.kx_tables.specs.Content.{Content, group_name}
use Rattle.kx_tables.specs.Sound.{Sound}
use Rattle.roundtrip_text.specs.Slices.{Slice, Lexes}
use Rattle.roundtrip_text.proofs.Lexing.{nothing_lexes, then_lexes}
use Rattle.roundtrip_text.specs.Source.{EachOf, KeyFits, indicator_seen, indicators_printed, key_printed, keys_printed, named_from, names_printed, types_printed}
use Rattle.kx_builder.specs.Seen.{type_seen}
use Rattle.roundtrip_text.proofs.TablesHold.{indicators_fit, keys_fit, names_fit, types_fit}
use Rattle.roundtrip_text.specs.GroupNames.{name_statement_slices}
use Rattle.roundtrip_text.specs.Indicators.{indicator_statement_slices}
use Rattle.roundtrip_text.specs.Keys.{key_statement_slices}
use Rattle.roundtrip_text.specs.ModifierMaps.{map_line_slices, maps_of_key}
use Rattle.roundtrip_text.specs.Sections.{OfKey, OfMap, OfName, compat_slices, keycode_statement_slices, map_lines_printed, printed_slices, section_slices, symbols_line_slices, symbols_lines}
use Rattle.roundtrip_text.specs.Types.{type_statement_slices}
use Rattle.roundtrip_text.proofs.Blocks.{block_lexes}
use Rattle.roundtrip_text.proofs.GroupNames.{name_lines_lex}
use Rattle.roundtrip_text.proofs.Indicators.{indicator_lexes}
use Rattle.roundtrip_text.proofs.Keys.{key_lexes}
use Rattle.roundtrip_text.proofs.Lines.{keycode_lexes, one_word}
use Rattle.roundtrip_text.proofs.ModifierMaps.{map_lines_lex}
use Rattle.roundtrip_text.proofs.Types.{type_statement_lexes}

-- lines of rows, each read as what it says
rows_lex : {R X : Type 0} (see : R → X) (Fits : X → Type 0) (line : R → List ℕ) (slices : X → List Slice) → ((r : R) → Fits (see r) → Lexes (line r) (slices (see r))) → (rows : List R) → EachOf Fits (map see rows) → Lexes (flat_map line rows) (flat_map slices (map see rows))
rows_lex see Fits line slices each [] fit = nothing_lexes
rows_lex see Fits line slices each (r ∷ rs) fit = then_lexes (each r fit.0) (rows_lex see Fits line slices each rs fit.1)

flat_flat : {X Y A : Type 0} (f : Y → List A) (g : X → List Y) (xs : List X) → flat_map f (flat_map g xs) ≡ flat_map (λ x. flat_map f (g x)) xs
flat_flat f g [] = refl
flat_flat f g (x ∷ xs) = flat_map-append f (g x) (flat_map g xs) ∙ ap (λ zs. flat_map f (g x) ++ zs) (flat_flat f g xs)

flat_mapped : {X Y A : Type 0} (f : Y → List A) (g : X → Y) (xs : List X) → flat_map f (map g xs) ≡ flat_map (λ x. f (g x)) xs
flat_mapped f g [] = refl
flat_mapped f g (x ∷ xs) = ap (λ zs. f (g x) ++ zs) (flat_mapped f g xs)

module _ (c : Content) (sound : Sound c) where
  keycodes_lex : Lexes (keycodes_section c) (section_slices (codes "xkb_keycodes") keycode_statement_slices (keys_printed c))
  unfolding keycodes_section
  keycodes_lex =
      block_lexes (one_word (codes "xkb_keycodes") refl)
      (rows_lex (key_printed c) KeyFits (keycode_line c) keycode_statement_slices (λ k fits. keycode_lexes c k fits.bytes (let small = fits.code in omega (arith, small))) c.keys (keys_fit c sound))

  types_lex : Lexes (types_section c) (section_slices (codes "xkb_types") type_statement_slices (types_printed c))
  unfolding types_section
  types_lex = block_lexes (one_word (codes "xkb_types") refl) (rows_lex (type_seen c) _ (type_block c) type_statement_slices (type_statement_lexes c) c.types (types_fit c sound))

  compat_lexes : Lexes (compat_section c) (compat_slices (indicators_printed c))
  unfolding compat_section
  compat_lexes = subst (λ n. Lexes (cond (length c.indicators == 0) [] lines) (cond (n == 0) [] slices)) (sym (length-map c.indicators (indicator_seen c))) (by (length c.indicators == 0))
    where
      lines : List ℕ
      lines = block (codes "xkb_compat") (flat_map (indicator_block c) c.indicators)

      slices : List Slice
      slices = section_slices (codes "xkb_compat") indicator_statement_slices (indicators_printed c)

      by : (t : Bool) → Lexes (cond t [] lines) (cond t [] slices)
      by true = nothing_lexes
      by false = block_lexes (one_word (codes "xkb_compat") refl) (rows_lex (indicator_seen c) _ (indicator_block c) indicator_statement_slices (indicator_lexes c) c.indicators (indicators_fit c sound))

  parts_are : flat_map name_statement_slices (named_from 1 (names_printed c)) ++ (flat_map key_statement_slices (keys_printed c) ++ flat_map (λ k. flat_map map_line_slices (maps_of_key k)) (keys_printed c))
      ≡ flat_map symbols_line_slices (symbols_lines (named_from 1 (names_printed c)) (keys_printed c) (map_lines_printed (keys_printed c)))
  parts_are =
      ap₂ (λ a b. a ++ b) (sym (flat_mapped symbols_line_slices OfName (named_from 1 (names_printed c))))
      (ap₂ (λ a b. a ++ b) (sym (flat_mapped symbols_line_slices OfKey (keys_printed c))) (sym (flat_flat map_line_slices maps_of_key (keys_printed c)) ∙ sym (flat_mapped symbols_line_slices OfMap (map_lines_printed (keys_printed c))))
      ∙ sym (flat_map-append symbols_line_slices (map OfKey (keys_printed c)) (map OfMap (map_lines_printed (keys_printed c)))))
      ∙ sym (flat_map-append symbols_line_slices (map OfName (named_from 1 (names_printed c))) (map OfKey (keys_printed c) ++ map OfMap (map_lines_printed (keys_printed c))))

  symbols_lex : Lexes (symbols_section c) (section_slices (codes "xkb_symbols") symbols_line_slices (symbols_lines (named_from 1 (names_printed c)) (keys_printed c) (map_lines_printed (keys_printed c))))
  unfolding symbols_section
  symbols_lex =
      block_lexes (one_word (codes "xkb_symbols") refl)
      (subst (λ ss. Lexes (numbered (group_name_line c) 1 c.group_names ++ (flat_map (key_block c) c.keys ++ flat_map (modifier_map_lines c) c.keys)) ss) parts_are
      (then_lexes (name_lines_lex c 1 c.group_names (names_fit c sound).each (let few = (names_fit c sound).few in omega (arith, few, length-map c.group_names (group_name c))))
      (then_lexes (rows_lex (key_printed c) KeyFits (key_block c) key_statement_slices (key_lexes c) c.keys (keys_fit c sound))
      (rows_lex (key_printed c) KeyFits (modifier_map_lines c) (λ k. flat_map map_line_slices (maps_of_key k)) (map_lines_lex c) c.keys (keys_fit c sound)))))

  pub printed_lexes : Lexes (printed c) (printed_slices c)
  unfolding printed
  printed_lexes = block_lexes (one_word (codes "xkb_keymap") refl) (then_lexes keycodes_lex (then_lexes types_lex (then_lexes compat_lexes symbols_lex)))
