-- What printed lines of fields, and blocks of them, are spelled as.
use Rattle.std.proofs.Common.{◌≡◌, ℕ, true, false, List, [], ◌∷◌, ◌++◌, map, refl, sym, ap, subst, append_assoc}
use Rattle.std.specs.List.{flat_map}
use Rattle.kx_lex.specs.Keywords.{keyword_of}
use Rattle.kx_lex.specs.Kinds.{front, is_mark, before_mark}
use Rattle.kx_lex.specs.Production.{many}
use Rattle.kx_lex.specs.Tokens.{open_bracket, close_bracket, open_brace, close_brace, equals, point, semicolon}
use Rattle.kx_lex.specs.declared.token.Span.{Span}
use Rattle.kx_lex.specs.declared.token.Token.{Token}
use Rattle.kx_lex.specs.declared.token.TokenKind.TheVariants.{Mark, Word}
use Rattle.kx_tree.specs.Statements.{field, setting, block, block_field}
use Rattle.kx_tree.specs.Values.{place, member, index, value, expression, begins_call}
use Rattle.kx_tree.specs.declared.tree.Expression.{Expression}
use Rattle.kx_tree.specs.declared.tree.Field.{Field}
use Rattle.kx_tree.specs.declared.tree.FieldPlace.{FieldPlace}
use Rattle.kx_tree.specs.declared.tree.Index.{Index}
use Rattle.kx_tree.specs.declared.tree.Operation.{Operation}
use Rattle.kx_tree.specs.declared.tree.Setting.{Setting}
use Rattle.kx_tree.specs.declared.tree.Setting.TheVariants as settings
use Rattle.kx_tree.specs.declared.tree.Value.{Value}
use Rattle.kx_tree.specs.declared.tree.Value.TheVariants as values
use Rattle.roundtrip_text.specs.Slices.{Slice, IsAt, Begins, none, more}
use Rattle.roundtrip_text.proofs.Phrases.{name_value}
use Rattle.roundtrip_tree.specs.Shows.{IsSpelled, ReadsAs, AreShown}
use Rattle.roundtrip_tree.specs.Shows.{none as shows_none, more as shows_more}
use Rattle.roundtrip_text.specs.Source.{EachOf}
use Rattle.roundtrip_text.specs.Spelled.{word, mark}
use Rattle.roundtrip_tree.specs.ShowsLines.{Written, Words, Digits, Quoted, Line, Set, SetAt, written_slices, line_slices, IsReadable, IsReadableLine, IsPlusWord, IsWritten, IsSetting, IsSettingAt, IsLine}
use Rattle.roundtrip_tree.proofs.Rows.{Stops, stop, Rows, parted, optional_none, optional_some}
use Rattle.roundtrip_tree.proofs.Spellings.{after_spelled, mark_spelled, first_spelled, second_spelled, made_spelled, made3_spelled, placed_spelled, both_spelled, ended_spelled}
use Rattle.roundtrip_tree.proofs.Terms.{Term1, plus_slices, IsPlus, terms_reads, text_expression_reads, stop_no_sign}
use Rattle.roundtrip_tree.proofs.Tokens.{token, word_spelled}
use Rattle.roundtrip_tree.proofs.Values.{number_expression_reads, stop_ne}

-- ---- Expressions

abbrev word_of : List ℕ → Term1
word_of w = record { keyword = keyword_of w; bytes = w }

abbrev plus_word : List ℕ → List Slice
plus_word w = mark 43 ∷ word w ∷ []

plus_same : (ws : List (List ℕ)) → flat_map plus_word ws ≡ flat_map plus_slices (map word_of ws)
plus_same [] = refl
plus_same (w ∷ ws) = ap (λ ss. mark 43 ∷ word w ∷ ss) (plus_same ws)

plus_shown : (ws : List (List ℕ)) (os : List Operation) → AreShown IsPlus (map word_of ws) os → AreShown IsPlusWord ws os
plus_shown [] [] shows_none = shows_none
plus_shown [] (o ∷ os) are = elim are [ ]
plus_shown (w ∷ ws) [] are = elim are [ ]
plus_shown (w ∷ ws) (o ∷ os) (shows_more one are) = shows_more one (plus_shown ws os are)

written_reads : (text : List ℕ) (x : Written) → IsReadable x → (ts rest : List Token) → Begins text (written_slices x) ts rest → Stops rest → ReadsAs (expression text) (IsWritten x) ts rest
written_reads text (Words []) good ts rest begins h = cc
written_reads text (Words (w ∷ ws)) good ts rest begins h =
    let r = terms_reads text (word_of w) (map word_of ws) ts rest (subst (λ ss. Begins text (word w ∷ ss) ts rest) (plus_same ws) begins) (stop_no_sign rest h) in
    record { value = r.value; spelled = r.spelled; is = record { first = r.is.first; rest = plus_shown ws r.value.rest r.is.rest } }
written_reads text (Digits bytes n) good ts rest begins h = number_expression_reads text bytes n good.0 good.1 ts rest begins h
written_reads text (Quoted name) good ts rest begins h = text_expression_reads text _ name (name_value name good) ts rest begins (stop_no_sign rest h)

-- no call, and no list
no_call : (text : List ℕ) (x : Written) → IsReadable x → (ts rest : List Token) → Begins text (written_slices x) ts rest → Stops rest → begins_call ts ≡ false
no_call text (Words []) good ts rest begins h = cc
no_call text (Words (w ∷ [])) good ts rest (more s a none) (stop {b = b} h) = stop_ne b 40 refl h
no_call text (Words (w ∷ v ∷ ws)) good ts rest (more s1 a1 (more s2 a2 begins)) h = refl
no_call text (Digits bytes n) good ts rest (more s a none) h = refl
no_call text (Quoted name) good ts rest (more s a none) h = refl

no_list : (text : List ℕ) (x : Written) → IsReadable x → (ts rest : List Token) → Begins text (written_slices x) ts rest → front (is_mark open_bracket) ts ≡ false
no_list text (Words []) good ts rest begins = cc
no_list text (Words (w ∷ ws)) good ts rest (more s a begins) = refl
no_list text (Digits bytes n) good ts rest (more s a none) = refl
no_list text (Quoted name) good ts rest (more s a none) = refl

abbrev IsWrittenValue : Written → Value → Type 0
IsWrittenValue x v = (e : Expression) × (v ≡ values.Expression e) × IsWritten x e

value_reads : (text : List ℕ) (x : Written) → IsReadable x → (ts rest : List Token) → Begins text (written_slices x) ts rest → Stops rest → ReadsAs (value text) (IsWrittenValue x) ts rest
unfolding value
value_reads text x good ts rest begins h =
    let e = written_reads text x good ts rest begins h in
    record {
      value = values.Expression e.value;
      spelled = second_spelled _ (no_list text x good ts rest begins) (second_spelled _ (no_call text x good ts rest begins h) (made_spelled values.Expression e.spelled));
      is = (e.value, refl, e.is);
    }

-- ---- Fields

-- without the mark that ends it
abbrev field_slices : Line → List Slice
field_slices (Set w value) = word w ∷ mark 61 ∷ written_slices value
field_slices (SetAt w index value) = word w ∷ mark 91 ∷ (written_slices index ++ (mark 93 ∷ mark 61 ∷ written_slices value))

line_ends : (l : Line) → line_slices l ≡ field_slices l ++ mark 59 ∷ []
line_ends (Set w value) = refl
line_ends (SetAt w index value) = ap (λ ss. word w ∷ mark 91 ∷ ss) (sym (append_assoc (written_slices index) (mark 93 ∷ mark 61 ∷ written_slices value) (mark 59 ∷ [])))

set_reads : (text w : List ℕ) (x : Written) → IsReadable x → (ts rest : List Token) → Begins text (field_slices (Set w x)) ts rest → Stops rest → ReadsAs (field text) (IsSetting w x) ts rest
unfolding field setting place
set_reads text w x good ts rest (more s1 a1 (more {ts = us} s2 a2 begins)) h =
    let v = value_reads text x good us rest begins h in
    let p = made3_spelled (λ w m i. let p : FieldPlace = record { word = w; member = m; index = i } in p) (word_spelled text w (keyword_of w) s1 _ a1) (optional_none (member text) (front (is_mark point)) _ refl) (optional_none (index text) (front (is_mark open_bracket)) (token (Mark 61) s2 ∷ us) refl) in
    let s = first_spelled _ refl (after_spelled (mark_spelled text equals (token (Mark 61) s2) us refl) (made_spelled settings.To v.spelled)) in
    record {
      value = _;
      spelled = placed_spelled (λ (f : FieldPlace × Setting) span. let f : Field = record { place = f.0; setting = f.1; span = span } in f) (second_spelled _ refl (both_spelled p s));
      is = record { word_span = s1; expression = v.is.0; place_is = refl; setting_is = ap settings.To v.is.1; is = v.is.2 };
    }

-- from the bracket that closes the index on
indexed_reads : (text w : List ℕ) (i x : Written) → IsReadable i → IsReadable x → (s1 s2 : Span) (us mid rest : List Token) → IsAt text w s1
    → Begins text (written_slices i) us mid → Begins text (mark 93 ∷ mark 61 ∷ written_slices x) mid rest → Stops rest → ReadsAs (field text) (IsSettingAt w i x) (token (Word (keyword_of w)) s1 ∷ token (Mark 91) s2 ∷ us) rest
unfolding field setting place index
indexed_reads text w i x good_index good s1 s2 us mid rest a1 first (more s3 a3 (more {ts = vs} s4 a4 begins)) h =
    let v = value_reads text x good vs rest begins h in
    let e = written_reads text i good_index us (token (Mark 93) s3 ∷ token (Mark 61) s4 ∷ vs) first (stop refl) in
    let i = placed_spelled (λ value span. let i : Index = record { value = value; span = span } in i) (after_spelled (mark_spelled text open_bracket (token (Mark 91) s2) us refl) (ended_spelled text close_bracket (token (Mark 93) s3) (token (Mark 61) s4 ∷ vs) e.spelled refl)) in
    let p = made3_spelled (λ w m i. let p : FieldPlace = record { word = w; member = m; index = i } in p) (word_spelled text w (keyword_of w) s1 _ a1) (optional_none (member text) (front (is_mark point)) _ refl) (optional_some (front (is_mark open_bracket)) refl i) in
    let s = first_spelled _ refl (after_spelled (mark_spelled text equals (token (Mark 61) s4) vs refl) (made_spelled settings.To v.spelled)) in
    record {
      value = _;
      spelled = placed_spelled (λ (f : FieldPlace × Setting) span. let f : Field = record { place = f.0; setting = f.1; span = span } in f) (second_spelled _ refl (both_spelled p s));
      is = record { word_span = s1; index_span = _; at = e.value; expression = v.is.0; place_is = refl; setting_is = ap settings.To v.is.1; at_is = e.is; is = v.is.2 };
    }

field_reads : (text : List ℕ) (l : Line) → IsReadableLine l → (ts rest : List Token) → Begins text (field_slices l) ts rest → Stops rest → ReadsAs (field text) (IsLine l) ts rest
field_reads text (Set w x) good ts rest begins h = set_reads text w x good ts rest begins h
field_reads text (SetAt w i x) good ts rest (more s1 a1 (more {ts = us} s2 a2 begins)) h =
    let p = parted (written_slices i) (mark 93 ∷ mark 61 ∷ written_slices x) begins in
    indexed_reads text w i x good.0 good.1 s1 s2 us p.mid rest a1 p.first p.second h

-- ---- Blocks

-- a field before the mark that ends it
pub record Ended (text : List ℕ) (l : Line) (ts rest : List Token) : Type 0 where
  pub value : Field
  pub end : Span
  pub spelled : IsSpelled (field text) ts value (token (Mark 59) end ∷ rest)
  pub is : IsLine l value

field_ended : (text : List ℕ) (l : Line) → IsReadableLine l → (ts mid rest : List Token) → Begins text (field_slices l) ts mid → Begins text (mark 59 ∷ []) mid rest → Ended text l ts rest
field_ended text l good ts mid rest first (more s a none) =
    let f = field_reads text l good ts (token (Mark 59) s ∷ rest) first (stop refl) in
    record { value = f.value; end = s; spelled = f.spelled; is = f.is }

pub line_reads : (text : List ℕ) (l : Line) → IsReadableLine l → (ts rest : List Token) → Begins text (line_slices l) ts rest → Ended text l ts rest
line_reads text l good ts rest begins =
    let p = parted (field_slices l) (mark 59 ∷ []) (subst (λ ss. Begins text ss ts rest) (line_ends l) begins) in
    field_ended text l good ts p.mid rest p.first p.second

line_starts : (text : List ℕ) (l : Line) (ts rest : List Token) → Begins text (line_slices l) ts rest → before_mark close_brace ts ≡ true
line_starts text (Set w x) ts rest (more s a begins) = refl
line_starts text (SetAt w i x) ts rest (more s a begins) = refl

line_spelled : (text : List ℕ) (l : Line) (ts rest : List Token) (e : Ended text l ts rest) → IsSpelled (block_field text) ts e.value rest
unfolding block_field
line_spelled text l ts rest e = ended_spelled text semicolon (token (Mark 59) e.end) rest e.spelled refl

line_rows : (text : List ℕ) (ls : List Line) → EachOf IsReadableLine ls → (ts rest : List Token) → Begins text (flat_map line_slices ls) ts rest → Rows (block_field text) (before_mark close_brace) IsLine ls ts rest
line_rows text [] good ts rest none = record { values = []; spelled = refl; are = shows_none }
line_rows text (l ∷ ls) good ts rest begins =
    let parts = parted (line_slices l) (flat_map line_slices ls) begins in
    let one = line_reads text l good.0 ts parts.mid parts.first in
    let others = line_rows text ls good.1 parts.mid rest parts.second in
    record { values = one.value ∷ others.values; spelled = (line_starts text l ts parts.mid parts.first, parts.mid, (line_spelled text l ts parts.mid one).spelled, others.spelled); are = shows_more one.is others.are }

lines_read : (text : List ℕ) (ls : List Line) → EachOf IsReadableLine ls → (ts rest : List Token) → Begins text (flat_map line_slices ls) ts rest → before_mark close_brace rest ≡ false → ReadsAs (many (before_mark close_brace) (block_field text)) (AreShown IsLine ls) ts rest
lines_read text ls good ts rest begins last = let r = line_rows text ls good ts rest begins in record { value = r.values; spelled = record { spelled = (r.spelled, last) }; is = r.are }

-- the block from its first brace on, before its last
pub block_reads : (text : List ℕ) (ls : List Line) → EachOf IsReadableLine ls → (s1 s2 : Span) (us rest : List Token) → Begins text (flat_map line_slices ls) us (token (Mark 125) s2 ∷ rest) → ReadsAs (block text) (AreShown IsLine ls) (token (Mark 123) s1 ∷ us) rest
unfolding block
block_reads text ls good s1 s2 us rest begins =
    let r = lines_read text ls good us (token (Mark 125) s2 ∷ rest) begins refl in
    record { value = r.value; spelled = after_spelled (mark_spelled text open_brace (token (Mark 123) s1) us refl) (ended_spelled text close_brace (token (Mark 125) s2) rest r.spelled refl); is = r.is }
