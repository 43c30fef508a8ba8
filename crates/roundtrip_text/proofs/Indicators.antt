-- How printed indicators are read.
use Rattle.std.proofs.Common.{◌≡◌, ℕ, ◌<◌, ◌≤◌, Bool, true, false, cond, ◌==◌, List, [], ◌∷◌, ◌++◌, length, codes, refl, sym, ap, ◌∙◌, subst, arith, eqb-true}
use Rattle.std.proofs.lemmas.Bool.{and_parts, eqb-false}
use Rattle.std.specs.Char.{is_ascii_hexdigit}
use Rattle.std.specs.List.{list_all}
use Rattle.std.specs.Str.Parse.{digits_value}
use Rattle.ks_core.specs.Names.{hex_digits}
use Rattle.ks_core.proofs.DigitsLemmas.{length-hex_digits}
use Rattle.ks_core.proofs.NumberLemmas.{value-hex_digits, all_hex-hex_digits, some_digits}
use Rattle.kx_lex.specs.Kinds.{number_value}
use Rattle.kx_lex.specs.declared.token.TokenKind.TheVariants.{Number}
use Rattle.kx_print.specs.Masks.{state_names, states_text}
use Rattle.kx_print.specs.Phrases.{hexadecimal}
use Rattle.kx_print.specs.Printed.{indicator_map_lines, indicator_block}
use Rattle.kx_tables.specs.Content.{Content, indicator_name}
use Rattle.kx_tables.specs.States.{state_bits}
use Rattle.kx_tables.specs.declared.rows.IndicatorRow.{IndicatorRow}
use Rattle.kx_tables.specs.declared.rows.States.{States}
use Rattle.roundtrip_text.specs.Slices.{slice, Lexes, LexesBefore}
use Rattle.roundtrip_text.proofs.Lexing.{then_lexes, before_lexes, then_before, weaker}
use Rattle.roundtrip_text.proofs.Phrases.{marks_lex, hex_lexes, printed_name_lexes}
use Rattle.roundtrip_text.specs.Source.{IndicatorFits, indicator_seen}
use Rattle.roundtrip_text.specs.Spelled.{mods_terms}
use Rattle.roundtrip_text.specs.Indicators.{states_terms, indicator_statement_slices}
use Rattle.roundtrip_text.proofs.Lines.{one_word, set_lexes, mods_lex, setting_lexes}
use Rattle.roundtrip_text.proofs.Blocks.{block_lexes}

-- ---- Hexadecimal numbers

pub record IsHexadecimal (n : ℕ) : Type 0 where
  pub first : ℕ
  pub others : List ℕ
  pub is : hexadecimal n ≡ 48 ∷ 120 ∷ first ∷ others
  pub digits : list_all is_ascii_hexdigit (first ∷ others) ≡ true
  pub value : digits_value 16 (first ∷ others) ≡ n

pub is_hexadecimal : (n : ℕ) → IsHexadecimal n
is_hexadecimal n = by (n == 0) refl
  where
    -- some digits
    some : (ds : List ℕ) → hex_digits false n ≡ ds → 0 < n → (n == 0) ≡ false → IsHexadecimal n
    some [] is above other = let none = ap length is in let size = length-hex_digits false n in let long = some_digits n above in absurd (omega (arith, none, size, long))
    some (d ∷ ds) is above other = record {
      first = d;
      others = ds;
      is = ap (λ t. codes "0x" ++ cond t (codes "0") (hex_digits false n)) other ∙ ap (λ ds. codes "0x" ++ ds) is;
      digits = ap (list_all is_ascii_hexdigit) (sym is) ∙ all_hex-hex_digits false n;
      value = ap (digits_value 16) (sym is) ∙ value-hex_digits false n;
    }

    by : (t : Bool) → (n == 0) ≡ t → IsHexadecimal n
    by true none = record { first = 48; others = []; is = ap (λ t. codes "0x" ++ cond t (codes "0") (hex_digits false n)) none; digits = refl; value = sym (eqb-true n 0 none) }
    by false other = let h = eqb-false n 0 other in some (hex_digits false n) refl (omega (arith, h)) other

pub hexadecimal_lexes : (n : ℕ) → LexesBefore (hexadecimal n) (slice Number (hexadecimal n) ∷ [])
hexadecimal_lexes n = let h = is_hexadecimal n in subst (λ bs. LexesBefore bs (slice Number bs ∷ [])) (sym h.is) (hex_lexes h.first h.others h.digits)

pub hexadecimal_value : (n : ℕ) → number_value (hexadecimal n) ≡ n
unfolding number_value
hexadecimal_value n =
    let h = is_hexadecimal n in
    ap number_value h.is
    ∙ ap (λ t. cond t (digits_value 16 (h.first ∷ h.others)) (digits_value 10 (48 ∷ 120 ∷ h.first ∷ h.others))) (and_parts (is_ascii_hexdigit h.first) (list_all is_ascii_hexdigit h.others) h.digits).0
    ∙ h.value

-- ---- Indicators

pub states_lex : (states : States) → state_bits states ≤ 15 → LexesBefore (states_text states) (states_terms states)
unfolding state_names
states_lex states small = set_lexes state_names (state_bits states) refl (omega (arith, small))

pub indicator_lexes : (c : Content) (d : IndicatorRow) → IndicatorFits (indicator_seen c d) → Lexes (indicator_block c d) (indicator_statement_slices (indicator_seen c d))
unfolding indicator_block indicator_map_lines
indicator_lexes c d fits =
    block_lexes (then_before (before_lexes (one_word (codes "indicator") refl) refl (marks_lex (codes " ") refl)) (weaker (printed_name_lexes (indicator_name c d) fits.bytes)))
    (then_lexes (setting_lexes (codes "whichModState") _ (states_terms d.mod_states) refl (states_lex d.mod_states fits.mod_states))
    (then_lexes (setting_lexes (codes "modifiers") _ (mods_terms d.mods) refl (mods_lex d.mods fits.mods))
    (then_lexes (setting_lexes (codes "whichGroupState") _ (states_terms d.group_states) refl (states_lex d.group_states fits.group_states))
    (setting_lexes (codes "groups") (hexadecimal d.groups) _ refl (hexadecimal_lexes d.groups)))))
