-- What printed fields are spelled as.
use Rattle.std.proofs.Common.{◌≡◌, ℕ, ◌<◌, ◌^◌, List, [], ◌∷◌, Option, None, Some, refl, ap}
use Rattle.kx_lex.specs.Kinds.{front, is_mark, number_value}
use Rattle.kx_lex.specs.Production.{span_between}
use Rattle.kx_lex.specs.Tokens.{open_bracket, close_bracket, equals, point}
use Rattle.kx_lex.specs.declared.keyword.Keyword.{Keyword}
use Rattle.kx_lex.specs.declared.token.Span.{Span}
use Rattle.kx_lex.specs.declared.token.Token.{Token}
use Rattle.kx_lex.specs.declared.token.TokenKind.TheVariants.{Mark, Number, Word}
use Rattle.kx_tree.specs.Statements.{field, setting}
use Rattle.kx_tree.specs.Values.{place, member, index, value}
use Rattle.kx_tree.specs.declared.tree.Field.{Field}
use Rattle.kx_tree.specs.declared.tree.FieldPlace.{FieldPlace}
use Rattle.kx_tree.specs.declared.tree.Index.{Index}
use Rattle.kx_tree.specs.declared.tree.Setting.{Setting}
use Rattle.kx_tree.specs.declared.tree.Setting.TheVariants as settings
use Rattle.kx_tree.specs.declared.tree.Expression.{Expression}
use Rattle.kx_tree.specs.declared.tree.Term.TheVariants as terms
use Rattle.kx_tree.specs.declared.tree.Value.{Value}
use Rattle.roundtrip_text.specs.Slices.{Slice, slice, Begins, none, more}
use Rattle.roundtrip_tree.specs.Shows.{ReadsAs, name_at, number_at}
use Rattle.roundtrip_tree.proofs.Rows.{Stops, stop, optional_none, optional_some}
use Rattle.roundtrip_tree.proofs.Spellings.{after_spelled, mark_spelled, first_spelled, second_spelled, made_spelled, made3_spelled, placed_spelled, both_spelled, ended_spelled}
use Rattle.roundtrip_tree.proofs.Tokens.{token, word_spelled}
use Rattle.roundtrip_tree.proofs.Values.{number_expression_reads}

-- the field `word[n]= value`
pub record IsFieldAt (w : List ℕ) (n : ℕ) (Is : Value → Type 0) (f : Field) : Type 0 where
  pub word_span : Span
  pub number_span : Span
  pub expression_span : Span
  pub index_span : Span
  pub value : Value
  pub place_is : f.place ≡ record { word = name_at w word_span; member = None; index = Some (record { value = record { first = terms.Number (number_at n number_span); rest = []; span = expression_span }; span = index_span }) }
  pub setting_is : f.setting ≡ settings.To value
  pub is : Is value

pub field_at_reads : (text w bytes : List ℕ) (keyword : Option Keyword) (n : ℕ) (vs : List Slice) (Is : Value → Type 0) → number_value bytes ≡ n → n < 2 ^ 32
    → ((ts rest : List Token) → Begins text vs ts rest → Stops rest → ReadsAs (value text) Is ts rest)
    → (ts rest : List Token) → Begins text (slice (Word keyword) w ∷ slice (Mark 91) (91 ∷ []) ∷ slice Number bytes ∷ slice (Mark 93) (93 ∷ []) ∷ slice (Mark 61) (61 ∷ []) ∷ vs) ts rest → Stops rest → ReadsAs (field text) (IsFieldAt w n Is) ts rest
unfolding field setting place index
field_at_reads text w bytes keyword n vs Is worth small reads ts rest (more s1 a1 (more s2 a2 (more s3 a3 (more s4 a4 (more {ts = us} s5 a5 begins))))) h =
    let v = reads us rest begins h in
    let e = number_expression_reads text bytes n worth small (token Number s3 ∷ token (Mark 93) s4 ∷ token (Mark 61) s5 ∷ us) (token (Mark 93) s4 ∷ token (Mark 61) s5 ∷ us) (more s3 a3 none) (stop refl) in
    let i = placed_spelled (λ value span. let i : Index = record { value = value; span = span } in i) (after_spelled (mark_spelled text open_bracket (token (Mark 91) s2) _ refl) (ended_spelled text close_bracket (token (Mark 93) s4) (token (Mark 61) s5 ∷ us) e.spelled refl)) in
    let p = made3_spelled (λ w m i. let p : FieldPlace = record { word = w; member = m; index = i } in p) (word_spelled text w keyword s1 _ a1) (optional_none (member text) (front (is_mark point)) _ refl) (optional_some (front (is_mark open_bracket)) refl i) in
    let s = first_spelled _ refl (after_spelled (mark_spelled text equals (token (Mark 61) s5) us refl) (made_spelled settings.To v.spelled)) in
    record {
      value = _;
      spelled = placed_spelled (λ (f : FieldPlace × Setting) span. let f : Field = record { place = f.0; setting = f.1; span = span } in f) (second_spelled _ refl (both_spelled p s));
      is = record {
        word_span = s1;
        number_span = e.is.0;
        expression_span = e.is.1;
        index_span = _;
        value = v.value;
        place_is = ap (λ (ex : Expression). let p : FieldPlace = record { word = name_at w s1; member = None; index = Some (record { value = ex; span = span_between (token (Mark 91) s2 ∷ token Number s3 ∷ token (Mark 93) s4 ∷ token (Mark 61) s5 ∷ us) (token (Mark 61) s5 ∷ us) }) } in p) e.is.2;
        setting_is = refl;
        is = v.is;
      };
    }
