-- What printed indicators are spelled as.
use Rattle.std.proofs.Common.{◌≡◌, ℕ, ◌≤◌, List, [], ◌∷◌, ◌++◌, codes, Some, refl, sym, ap, arith, subst, append-nil}
use Rattle.std.specs.List.{flat_map}
use Rattle.ks_core.specs.PrintedName.{printed_name}
use Rattle.kx_builder.specs.IndicatorMaps.{ResolvedIndicator}
use Rattle.kx_lex.specs.Keywords.{spellings}
use Rattle.kx_lex.specs.Kinds.{is_keyword}
use Rattle.kx_lex.specs.Production.{span_between}
use Rattle.kx_lex.specs.declared.keyword.Keyword.TheVariants as keywords
use Rattle.kx_lex.specs.declared.token.Span.{Span}
use Rattle.kx_lex.specs.declared.token.Token.{Token}
use Rattle.kx_lex.specs.declared.token.TokenKind.TheVariants.{Word, Text, Mark, Number}
use Rattle.kx_tree.specs.Sections.{item, join_of, mode_of}
use Rattle.kx_tree.specs.Statements.{statement, keycodes_statement, types_statement, indicator}
use Rattle.kx_tree.specs.declared.tree.Item.TheVariants as items
use Rattle.kx_tree.specs.declared.tree.Statement.TheVariants as statements
use Rattle.kx_print.specs.Masks.{state_names}
use Rattle.kx_print.specs.Phrases.{hexadecimal}
use Rattle.kx_tables.specs.States.{state_bits}
use Rattle.kx_tables.specs.declared.rows.States.{States}
use Rattle.roundtrip_text.specs.Slices.{slice, IsAt, Begins, none, more}
use Rattle.roundtrip_text.proofs.Phrases.{name_value}
use Rattle.roundtrip_text.specs.Source.{EachOf, IndicatorFits}
use Rattle.roundtrip_text.specs.Spelled.{mark, mods_terms, setting_slices}
use Rattle.roundtrip_text.specs.Indicators.{states_terms, indicator_map_slices, indicator_statement_slices}
use Rattle.roundtrip_text.proofs.Indicators.{hexadecimal_value}
use Rattle.roundtrip_tree.specs.Shows.{ReadsAs, IsItem, name_at}
use Rattle.roundtrip_tree.specs.ShowsLines.{line_slices, IsReadable, IsReadableLine}
use Rattle.roundtrip_tree.specs.Indicators.{states_written, indicator_map_lines, IsIndicator}
use Rattle.roundtrip_tree.proofs.Lines.{block_reads}
use Rattle.roundtrip_tree.proofs.Rows.{parted}
use Rattle.roundtrip_tree.proofs.Spellings.{keyword_spelled, made2_spelled, after_spelled, first_spelled, second_spelled}
use Rattle.roundtrip_tree.proofs.Statements.{item_spelled, stated_at}
use Rattle.roundtrip_tree.proofs.Tokens.{token, text_spelled}
use Rattle.roundtrip_tree.proofs.Types.{some_words, mods_readable}

lines_same : (d : ResolvedIndicator) → flat_map line_slices (indicator_map_lines d) ≡ indicator_map_slices d
lines_same d =
    ap (λ ss. setting_slices (codes "whichModState") (states_terms d.mod_states) ++ (setting_slices (codes "modifiers") (mods_terms d.mods) ++ (setting_slices (codes "whichGroupState") (states_terms d.group_states) ++ ss)))
    (append-nil (setting_slices (codes "groups") (slice Number (hexadecimal d.groups) ∷ [])))

states_readable : (states : States) → state_bits states ≤ 15 → IsReadable (states_written states)
unfolding state_names
states_readable states small = some_words state_names (state_bits states) (omega (arith, small))

lines_readable : (d : ResolvedIndicator) → IndicatorFits d → EachOf IsReadableLine (indicator_map_lines d)
lines_readable d fits = (states_readable d.mod_states fits.mod_states, (mods_readable d.mods fits.mods, (states_readable d.group_states fits.group_states, ((hexadecimal_value d.groups, fits.groups), tt))))

closed_reads : (text : List ℕ) (d : ResolvedIndicator) → IndicatorFits d → (s1 s2 s3 : Span) (us mid rest : List Token)
    → IsAt text (34 ∷ printed_name d.name ++ 34 ∷ []) s2 → Begins text (flat_map line_slices (indicator_map_lines d)) us mid → Begins text (mark 125 ∷ mark 59 ∷ []) mid rest
    → ReadsAs (item text) (IsItem (IsIndicator d)) (token (Word (Some keywords.Indicator)) s1 ∷ token Text s2 ∷ token (Mark 123) s3 ∷ us) rest
unfolding statement indicator keycodes_statement types_statement mode_of join_of is_keyword
closed_reads text d fits s1 s2 s3 us mid rest a2 first (more s4 a4 (more s5 a5 none)) =
    let b = block_reads text (indicator_map_lines d) (lines_readable d fits) s3 s4 us (token (Mark 59) s5 ∷ rest) first in
    let n = text_spelled text (printed_name d.name) d.name s2 (token (Mark 123) s3 ∷ us) (name_value d.name fits.bytes) a2 in
    let s = after_spelled (keyword_spelled text keywords.Indicator (token (Word (Some keywords.Indicator)) s1) _ refl) (made2_spelled statements.Indicator n b.spelled) in
    record {
      value = items.Statement (stated_at (statements.Indicator (name_at d.name s2) b.value) s1 (span_between (token (Word (Some keywords.Indicator)) s1 ∷ token Text s2 ∷ token (Mark 123) s3 ∷ us) rest));
      spelled = item_spelled text (token (Mark 59) s5) rest refl refl
          (second_spelled _ refl (second_spelled _ refl (second_spelled _ refl (second_spelled _ refl (second_spelled _ refl (second_spelled _ refl (second_spelled _ refl (first_spelled _ refl s))))))))
          refl;
      is = record { stated = _; item_is = refl; is = record { mode_is = refl; shows = record { span = s2; fields = b.value; is = refl; are = b.is } } };
    }

pub indicator_reads : (text : List ℕ) (d : ResolvedIndicator) → IndicatorFits d → (ts rest : List Token) → Begins text (indicator_statement_slices d) ts rest → ReadsAs (item text) (λ i. IsItem (IsIndicator d) i) ts rest
unfolding spellings
indicator_reads text d fits ts rest (more s1 a1 (more s2 a2 (more {ts = us} s3 a3 begins))) =
    let p = parted (flat_map line_slices (indicator_map_lines d)) (mark 125 ∷ mark 59 ∷ []) (subst (λ ss. Begins text (ss ++ mark 125 ∷ mark 59 ∷ []) us rest) (sym (lines_same d)) begins) in
    closed_reads text d fits s1 s2 s3 us p.mid rest a2 p.first p.second
