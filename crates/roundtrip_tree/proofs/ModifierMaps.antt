-- What printed modifier maps are spelled as.
use Rattle.std.proofs.Common.{ℕ, List, ◌∷◌, Some, refl}
use Rattle.kx_lex.specs.Keywords.{keyword_of, spellings}
use Rattle.kx_lex.specs.Kinds.{is_keyword}
use Rattle.kx_lex.specs.Tokens.{close_brace, open_brace}
use Rattle.kx_lex.specs.declared.keyword.Keyword.TheVariants as keywords
use Rattle.kx_lex.specs.declared.token.Token.{Token}
use Rattle.kx_lex.specs.declared.token.TokenKind.TheVariants.{Mark, Word, KeyName}
use Rattle.kx_tree.specs.Sections.{item, join_of, mode_of}
use Rattle.kx_tree.specs.Statements.{statement, modifier_map, mapped_entries, entry, keycodes_statement, types_statement, symbols_statement}
use Rattle.kx_tree.specs.declared.tree.Entry.TheVariants as entries
use Rattle.kx_tree.specs.declared.tree.Statement.TheVariants as statements
use Rattle.roundtrip_text.specs.Slices.{Begins, none, more}
use Rattle.roundtrip_text.specs.ModifierMaps.{MapLine, map_line_slices}
use Rattle.roundtrip_text.proofs.ModifierMaps.{MapLineFits}
use Rattle.roundtrip_tree.specs.Shows.{ReadsAs, IsItem, IsModifierMap}
use Rattle.roundtrip_tree.proofs.Spellings.{after_spelled, keyword_spelled, first_spelled, second_spelled, made_spelled, headed_spelled, single_spelled}
use Rattle.roundtrip_tree.proofs.Statements.{item_spelled}
use Rattle.roundtrip_tree.proofs.Tokens.{token, key_name_spelled, word_spelled}

pub map_reads : (text : List ℕ) (l : MapLine) → MapLineFits l → (ts rest : List Token) → Begins text (map_line_slices l) ts rest → ReadsAs (item text) (λ i. IsItem (IsModifierMap l.modifier l.name) i) ts rest
unfolding statement modifier_map mapped_entries entry keycodes_statement types_statement symbols_statement mode_of join_of is_keyword spellings
map_reads text l fits ts rest (more s1 a1 (more s2 a2 (more s3 a3 (more s4 a4 (more s5 a5 (more s6 a6 none)))))) =
    let one = single_spelled text (first_spelled _ refl (made_spelled entries.KeyName (key_name_spelled text l.name s4 (token (Mark 125) s5 ∷ token (Mark 59) s6 ∷ rest) fits.name a4))) refl in
    let h = headed_spelled text open_brace close_brace statements.ModifierMap (token (Mark 123) s3) (token (Mark 125) s5)
    (word_spelled text l.modifier (keyword_of l.modifier) s2 (token (Mark 123) s3 ∷ token KeyName s4 ∷ token (Mark 125) s5 ∷ token (Mark 59) s6 ∷ rest) a2) refl one refl in
    let k = after_spelled (keyword_spelled text keywords.ModifierMap (token (Word (Some keywords.ModifierMap)) s1) _ refl) h in
    let s = second_spelled _ refl (second_spelled _ refl (second_spelled _ refl (second_spelled _ refl (second_spelled _ refl (second_spelled _ refl (second_spelled _ refl (second_spelled _ refl (second_spelled _ refl (second_spelled _ refl (first_spelled _ refl k)))))))))) in
    record {
      value = _;
      spelled = item_spelled text (token (Mark 59) s6) rest refl refl s refl;
      is = record { stated = _; item_is = refl; is = record { mode_is = refl; shows = record { word_span = s2; name_span = s4; is = refl } } };
    }
