-- What the fields of a printed key are spelled as.
use Rattle.std.proofs.Common.{◌≡◌, ℕ, ◌<◌, ◌^◌, true, List, [], ◌∷◌, codes, refl, ap}
use Rattle.std.specs.Fmt.{decimal}
use Rattle.kx_lex.specs.Keywords.{keyword_of}
use Rattle.kx_lex.specs.Kinds.{front, is_mark, before_mark}
use Rattle.kx_lex.specs.Production.{give}
use Rattle.kx_lex.specs.Tokens.{equals, point, open_bracket, close_brace}
use Rattle.kx_lex.specs.declared.token.Token.{Token}
use Rattle.kx_lex.specs.declared.token.TokenKind.TheVariants.{Mark}
use Rattle.kx_tree.specs.Statements.{field, key_field, setting}
use Rattle.kx_tree.specs.Values.{place, member, index, value}
use Rattle.kx_tree.specs.declared.tree.Field.{Field}
use Rattle.kx_tree.specs.declared.tree.FieldPlace.{FieldPlace}
use Rattle.kx_tree.specs.declared.tree.KeyField.TheVariants as fields
use Rattle.kx_tree.specs.declared.tree.Setting.{Setting}
use Rattle.kx_tree.specs.declared.tree.Setting.TheVariants as settings
use Rattle.kx_tree.specs.declared.tree.Value.{Value}
use Rattle.roundtrip_text.specs.Slices.{Slice, Begins, none, more}
use Rattle.roundtrip_text.proofs.Texts.{decimal_value}
use Rattle.roundtrip_text.specs.Source.{EachOf, are_bytes}
use Rattle.roundtrip_text.specs.KeyPhrases.{a_word, a_mark, a_number, a_text, level_slices, call_slices, bracket_slices, at_slices, FieldPhrase, TypeOf, SymbolsOf, ActionsOf, Clamped, RedirectedTo, field_slices}
use Rattle.roundtrip_tree.specs.Keys.{IsLevelOf, IsActionOf, IsListOf, IsTextOf, IsIndexedField, IsBareField, IsNumberField, IsFieldOf}
use Rattle.roundtrip_tree.specs.Shows.{IsSpelled, ReadsAs}
use Rattle.roundtrip_tree.proofs.Fields.{IsFieldAt, field_at_reads}
use Rattle.roundtrip_tree.proofs.KeyValues.{wide, IsReadable, IsSayable, level_reads, level_starts, action_reads, action_starts, list_reads, text_reads, number_reads}
use Rattle.roundtrip_tree.proofs.Rows.{Stops, stop, optional_none}
use Rattle.roundtrip_tree.proofs.Spellings.{after_spelled, mark_spelled, first_spelled, second_spelled, made_spelled, made3_spelled, placed_spelled, both_spelled}
use Rattle.roundtrip_tree.proofs.Tokens.{token, word_spelled}
use Rattle.roundtrip_tree.proofs.Values.{stop_ne}

-- ---- A word with an index

indexed_reads : (text w : List ℕ) (n : ℕ) (vs : List Slice) (Is : Value → Type 0) → n < 2 ^ 32 → ((ts rest : List Token) → Begins text vs ts rest → Stops rest → ReadsAs (value text) Is ts rest)
    → (ts rest : List Token) → Begins text (at_slices w n vs) ts rest → Stops rest → ReadsAs (key_field text) (IsIndexedField w n Is) ts rest
unfolding key_field
indexed_reads text w n vs Is small reads ts rest begins h = by begins (field_at_reads text w (decimal n) (keyword_of w) n vs Is (decimal_value n (wide n small)) small reads ts rest begins h)
  where
    by : {ts : List Token} → Begins text (at_slices w n vs) ts rest → ReadsAs (field text) (IsFieldAt w n Is) ts rest → ReadsAs (key_field text) (IsIndexedField w n Is) ts rest
    by (more s1 a1 begins) r = record {
      value = fields.Field r.value;
      spelled = second_spelled _ refl (made_spelled fields.Field r.spelled);
      is = record {
        field = r.value;
        is = refl;
        word_span = r.is.word_span;
        number_span = r.is.number_span;
        expression_span = r.is.expression_span;
        index_span = r.is.index_span;
        place_is = r.is.place_is;
        value = r.is.value;
        setting_is = r.is.setting_is;
        value_is = r.is.is;
      };
    }

-- ---- A word without

bare_reads : (text w : List ℕ) (ts rest : List Token) → Begins text (a_word w ∷ []) ts rest → Stops rest → ReadsAs (key_field text) (IsBareField w) ts rest
unfolding key_field field setting place
bare_reads text w ts rest (more s1 a1 none) (stop {b = b} {span = after} {rest = behind} h) =
    let p = made3_spelled (λ w m i. let p : FieldPlace = record { word = w; member = m; index = i } in p) (word_spelled text w (keyword_of w) s1 (token (Mark b) after ∷ behind) a1)
    (optional_none (member text) (front (is_mark point)) (token (Mark b) after ∷ behind) (stop_ne b 46 refl h)) (optional_none (index text) (front (is_mark open_bracket)) (token (Mark b) after ∷ behind) (stop_ne b 91 refl h)) in
    let on : IsSpelled (give settings.On) (token (Mark b) after ∷ behind) settings.On (token (Mark b) after ∷ behind) = record { spelled = (refl, refl) } in
    let f = placed_spelled (λ (f : FieldPlace × Setting) span. let f : Field = record { place = f.0; setting = f.1; span = span } in f) (second_spelled _ refl (both_spelled p (second_spelled _ (stop_ne b 61 refl h) on))) in
    record { value = _; spelled = second_spelled _ refl (made_spelled fields.Field f); is = record { field = _; is = refl; word_span = s1; place_is = refl; setting_is = refl } }

number_field_reads : (text w : List ℕ) (n : ℕ) → n < 2 ^ 32 → (ts rest : List Token) → Begins text (a_word w ∷ a_mark 61 ∷ a_number n ∷ []) ts rest → Stops rest → ReadsAs (key_field text) (IsNumberField w n) ts rest
unfolding key_field field setting place
number_field_reads text w n small ts rest (more s1 a1 (more {ts = us} s2 a2 begins)) h =
    let v = number_reads text n small us rest begins h in
    let p = made3_spelled (λ w m i. let p : FieldPlace = record { word = w; member = m; index = i } in p) (word_spelled text w (keyword_of w) s1 (token (Mark 61) s2 ∷ us) a1)
    (optional_none (member text) (front (is_mark point)) (token (Mark 61) s2 ∷ us) refl) (optional_none (index text) (front (is_mark open_bracket)) (token (Mark 61) s2 ∷ us) refl) in
    let s = first_spelled (give settings.On) refl (after_spelled (mark_spelled text equals (token (Mark 61) s2) us refl) (made_spelled settings.To v.spelled)) in
    let f = placed_spelled (λ (f : FieldPlace × Setting) span. let f : Field = record { place = f.0; setting = f.1; span = span } in f) (second_spelled _ refl (both_spelled p s)) in
    record {
      value = _;
      spelled = second_spelled _ refl (made_spelled fields.Field f);
      is = record { field = _; is = refl; word_span = s1; place_is = refl; value = v.is.0; setting_is = ap settings.To v.is.1; value_is = v.is.2 };
    }

-- ---- Fields

abbrev pub IsGiven : FieldPhrase → Type 0
IsGiven (TypeOf n name) = (n < 2 ^ 32) × are_bytes name
IsGiven (SymbolsOf n levels) = (n < 2 ^ 32) × EachOf (EachOf IsReadable) levels
IsGiven (ActionsOf n calls) = (n < 2 ^ 32) × EachOf IsSayable calls
IsGiven Clamped = Unit {0}
IsGiven (RedirectedTo n) = n < 2 ^ 32

pub field_reads : (text : List ℕ) (p : FieldPhrase) → IsGiven p → (ts rest : List Token) → Begins text (field_slices p) ts rest → Stops rest → ReadsAs (key_field text) (IsFieldOf p) ts rest
field_reads text (TypeOf n name) good ts rest begins h = indexed_reads text (codes "type") n (a_text name ∷ []) (IsTextOf name) good.0 (λ ts rest b h. text_reads text name good.1 ts rest b h) ts rest begins h
field_reads text (SymbolsOf n levels) good ts rest begins h =
    indexed_reads text (codes "symbols") n (bracket_slices level_slices levels) (IsListOf IsLevelOf levels) good.0
    (λ ts rest b h. list_reads text level_slices IsLevelOf (EachOf IsReadable) (level_reads text) (level_starts text) levels good.1 ts rest b) ts rest begins h
field_reads text (ActionsOf n calls) good ts rest begins h =
    indexed_reads text (codes "actions") n (bracket_slices call_slices calls) (IsListOf IsActionOf calls) good.0
    (λ ts rest b h. list_reads text call_slices IsActionOf IsSayable (action_reads text) (action_starts text) calls good.1 ts rest b) ts rest begins h
field_reads text Clamped good ts rest begins h = bare_reads text (codes "groupsClamp") ts rest begins h
field_reads text (RedirectedTo n) good ts rest begins h = number_field_reads text (codes "groupsRedirect") n good ts rest begins h

pub field_starts : (text : List ℕ) (p : FieldPhrase) (ts rest : List Token) → Begins text (field_slices p) ts rest → before_mark close_brace ts ≡ true
field_starts text (TypeOf n name) ts rest (more span at begins) = refl
field_starts text (SymbolsOf n levels) ts rest (more span at begins) = refl
field_starts text (ActionsOf n calls) ts rest (more span at begins) = refl
field_starts text Clamped ts rest (more span at begins) = refl
field_starts text (RedirectedTo n) ts rest (more span at begins) = refl
