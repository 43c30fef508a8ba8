-- What printed masks, texts and calls are spelled as.
use Rattle.std.proofs.Common.{◌≡◌, ℕ, true, false, ◌||◌, List, [], ◌∷◌, ◌++◌, Option, None, refl, sym, ap, ap₂, subst}
use Rattle.std.specs.List.{flat_map}
use Rattle.kx_lex.specs.Kinds.{front, is_mark, before_mark}
use Rattle.kx_lex.specs.Production.{many}
use Rattle.kx_lex.specs.Strings.{text_value}
use Rattle.kx_lex.specs.Tokens.{comma, number, open_paren, close_paren, open_bracket}
use Rattle.kx_lex.specs.declared.keyword.Keyword.{Keyword}
use Rattle.kx_lex.specs.declared.string.EscapeState.TheVariants.{Plain}
use Rattle.kx_lex.specs.declared.token.Span.{Span}
use Rattle.kx_lex.specs.declared.token.Token.{Token}
use Rattle.kx_lex.specs.declared.token.TokenKind.TheVariants.{Mark, Word, Text}
use Rattle.kx_tree.specs.Forms.{made, listed}
use Rattle.kx_tree.specs.Values.{term, operation, expression, sign, is_sign, signed, argument, set_argument, begins_set, index, call}
use Rattle.kx_tree.specs.declared.tree.Argument.TheVariants as arguments
use Rattle.kx_tree.specs.declared.tree.Call.{Call}
use Rattle.kx_tree.specs.declared.tree.Expression.{Expression}
use Rattle.kx_tree.specs.declared.tree.Operation.{Operation}
use Rattle.kx_tree.specs.declared.tree.PlacedArgument.{PlacedArgument}
use Rattle.kx_tree.specs.declared.tree.Sign.TheVariants.{Plus}
use Rattle.kx_tree.specs.declared.tree.Term.{Term}
use Rattle.kx_tree.specs.declared.tree.Term.TheVariants as terms
use Rattle.kx_lex.specs.declared.name.Name.{Name}
use Rattle.roundtrip_text.specs.Slices.{Slice, slice, Begins, none, more, IsAt}
use Rattle.roundtrip_tree.specs.Shows.{IsSpelled, ReadsAs, AreShown, name_at}
use Rattle.roundtrip_tree.specs.Shows.{none as shows_none}
use Rattle.roundtrip_tree.proofs.Rows.{Stops, stop, parted, list_slices, many_reads, optional_none}
use Rattle.roundtrip_tree.proofs.Spellings.{first_spelled, second_spelled, made_spelled, made2_spelled, placed_spelled, both_spelled, assigned_spelled, headed_spelled}
use Rattle.roundtrip_tree.proofs.Tokens.{token, word_spelled, text_spelled}
use Rattle.roundtrip_tree.proofs.Values.{listed_reads, stop_ne}

-- a word with the keyword that it spells
pub record Term1 : Type 0 where
  pub keyword : Option Keyword
  pub bytes : List ℕ

abbrev pub word_slice : Term1 → Slice
word_slice w = slice (Word w.keyword) w.bytes

abbrev pub IsWordTerm : Term1 → Term → Type 0
IsWordTerm w t = (span : Span) × (t ≡ terms.Word (name_at w.bytes span))

word_term_spelled : (text : List ℕ) (w : Term1) (span : Span) (rest : List Token) → IsAt text w.bytes span → IsSpelled (term text) (token (Word w.keyword) span ∷ rest) (terms.Word (name_at w.bytes span)) rest
unfolding term
word_term_spelled text w span rest at = second_spelled _ refl (second_spelled _ refl (second_spelled _ refl (second_spelled _ refl (made_spelled terms.Word (word_spelled text w.bytes w.keyword span rest at)))))

abbrev pub plus_slices : Term1 → List Slice
plus_slices w = slice (Mark 43) (43 ∷ []) ∷ word_slice w ∷ []

abbrev pub IsPlus : Term1 → Operation → Type 0
IsPlus w o = (o.sign ≡ Plus) × IsWordTerm w o.term

operation_reads : (text : List ℕ) (w : Term1) (ts rest : List Token) → Begins text (plus_slices w) ts rest → (front is_sign ts ≡ true) × ReadsAs (operation text) (IsPlus w) ts rest
unfolding operation sign
operation_reads text w ts rest (more s1 a1 (more s2 a2 none)) =
    let plus : IsSpelled (sign text) (token (Mark 43) s1 ∷ token (Word w.keyword) s2 ∷ rest) Plus (token (Word w.keyword) s2 ∷ rest) = record { spelled = (token (Mark 43) s1, _, (refl, refl), (refl, refl)) } in
    (refl, record { value = _; spelled = made2_spelled (λ s t. let o : Operation = record { sign = s; term = t } in o) plus (word_term_spelled text w s2 rest a2); is = (refl, (s2, refl)) })

-- words joined by +, before what is no sign
pub record IsTerms (w : Term1) (ws : List Term1) (e : Expression) : Type 0 where
  pub first : IsWordTerm w e.first
  pub rest : AreShown IsPlus ws e.rest

pub terms_reads : (text : List ℕ) (w : Term1) (ws : List Term1) (ts rest : List Token) → Begins text (word_slice w ∷ flat_map plus_slices ws) ts rest → front is_sign rest ≡ false → ReadsAs (expression text) (IsTerms w ws) ts rest
unfolding expression
terms_reads text w ws ts rest (more {ts = us} s a begins) last =
    let others = many_reads text (operation text) (front is_sign) plus_slices IsPlus (λ w ts rest b. operation_reads text w ts rest b) ws us rest begins last in
    let both_of = both_spelled (word_term_spelled text w s us a) others.spelled in
    record { value = _; spelled = placed_spelled (λ e whole. let e : Expression = record { first = e.0; rest = e.1; span = whole } in e) both_of; is = record { first = (s, refl); rest = others.is } }

-- one text, before what is no sign
pub text_expression_reads : (text bytes name : List ℕ) → text_value Plain bytes ≡ name → (ts rest : List Token) → Begins text (slice Text (34 ∷ bytes ++ 34 ∷ []) ∷ []) ts rest → front is_sign rest ≡ false
    → ReadsAs (expression text) (λ e. (span whole : Span) × (e ≡ record { first = terms.Text (name_at name span); rest = []; span = whole })) ts rest
unfolding expression term
text_expression_reads text bytes name worth ts rest (more s a none) last =
    let n = text_spelled text bytes name s rest worth a in
    let t = second_spelled (made terms.Signed (signed text)) refl (second_spelled (made terms.Number (number text)) refl (first_spelled _ refl (made_spelled terms.Text n))) in
    let nothing : IsSpelled (many (front is_sign) (operation text)) rest [] rest = record { spelled = (refl, last) } in
    record { value = _; spelled = placed_spelled (λ e whole. record { first = e.0; rest = e.1; span = whole }) (both_spelled t nothing); is = (s, _, refl) }

-- ---- Calls

-- the argument `word=value`
pub record IsSet (w : Term1) (Is : Expression → Type 0) (a : PlacedArgument) : Type 0 where
  pub word_span : Span
  pub value : Expression
  pub argument_is : a.argument ≡ arguments.Set (name_at w.bytes word_span) None value
  pub is : Is value

pub set_argument_reads : (text : List ℕ) (w : Term1) (vs : List Slice) (Is : Expression → Type 0) → ((ts rest : List Token) → Begins text vs ts rest → Stops rest → ReadsAs (expression text) Is ts rest)
    → (ts rest : List Token) → Begins text (word_slice w ∷ slice (Mark 61) (61 ∷ []) ∷ vs) ts rest → Stops rest → ReadsAs (argument text) (IsSet w Is) ts rest
unfolding argument set_argument
set_argument_reads text w vs Is reads ts rest (more s1 a1 (more {ts = us} s2 a2 begins)) h =
    let v = reads us rest begins h in
    let a = assigned_spelled text (arguments.Set (name_at w.bytes s1)) (token (Mark 61) s2) (optional_none (index text) (front (is_mark open_bracket)) (token (Mark 61) s2 ∷ us) refl) refl v.spelled in
    let n = word_spelled text w.bytes w.keyword s1 (token (Mark 61) s2 ∷ us) a1 in
    let whole : IsSpelled (set_argument text) (token (Word w.keyword) s1 ∷ token (Mark 61) s2 ∷ us) (arguments.Set (name_at w.bytes s1) None v.value) rest = record { spelled = (name_at w.bytes s1, token (Mark 61) s2 ∷ us, n.spelled, a.spelled) } in
    record {
      value = _;
      spelled = placed_spelled (λ a span. let p : PlacedArgument = record { argument = a; span = span } in p) (second_spelled _ refl (first_spelled _ refl whole));
      is = record { word_span = s1; value = v.value; argument_is = refl; is = v.is };
    }

-- a flag, the argument `word`
pub record IsFlag (w : Term1) (a : PlacedArgument) : Type 0 where
  pub value : Expression
  pub argument_is : a.argument ≡ arguments.Plain value
  pub is : IsTerms w [] value

pub stop_no_sign : (rest : List Token) → Stops rest → front is_sign rest ≡ false
stop_no_sign rest (stop {b = b} h) = ap₂ (λ p q. p || q) (stop_ne b 43 refl h) (stop_ne b 45 refl h)

no_set : (w : Term1) (span : Span) (rest : List Token) → Stops rest → begins_set (token (Word w.keyword) span ∷ rest) ≡ false
no_set w span rest (stop {b = b} h) = ap₂ (λ p q. p || q) (stop_ne b 61 refl h) (stop_ne b 91 refl h)

pub flag_reads : (text : List ℕ) (w : Term1) (ts rest : List Token) → Begins text (word_slice w ∷ []) ts rest → Stops rest → ReadsAs (argument text) (IsFlag w) ts rest
unfolding argument
flag_reads text w ts rest (more s a none) h =
    let e = terms_reads text w [] (token (Word w.keyword) s ∷ rest) rest (more s a none) (stop_no_sign rest h) in
    record {
      value = _;
      spelled = placed_spelled (λ a span. let p : PlacedArgument = record { argument = a; span = span } in p) (second_spelled _ refl (second_spelled _ (no_set w s rest h) (made_spelled arguments.Plain e.spelled)));
      is = record { value = e.value; argument_is = refl; is = e.is };
    }

module _ {X : Type 0} (text : List ℕ) (slices : X → List Slice) (Is : X → PlacedArgument → Type 0)
    (reads : (x : X) (ts rest : List Token) → Begins text (slices x) ts rest → Stops rest → ReadsAs (argument text) (Is x) ts rest)
    (starts : (x : X) (ts rest : List Token) → Begins text (slices x) ts rest → before_mark close_paren ts ≡ true) where
  pub record IsCall (w : Term1) (xs : List X) (c : Call) : Type 0 where
    pub word_span : Span
    pub word_is : c.word ≡ name_at w.bytes word_span
    pub are : AreShown Is xs c.arguments

  arguments_read : (xs : List X) (us mid : List Token) (s : Span) (rest : List Token) → Begins text (list_slices slices xs) us mid → mid ≡ token (Mark 41) s ∷ rest → ReadsAs (listed text close_paren (argument text)) (AreShown Is xs) us mid
  arguments_read [] us mid s rest none e = record { value = []; spelled = second_spelled _ (ap (before_mark close_paren) e) (record { spelled = (refl, refl) }); is = shows_none }
  arguments_read (x ∷ xs) us mid s rest begins e = listed_reads text close_paren (argument text) slices Is reads starts x xs us mid begins (subst Stops (sym e) (stop refl)) (ap (front (is_mark comma)) e)

  call_closed : (w : Term1) (xs : List X) (s1 s2 : Span) (us mid rest : List Token) → IsAt text w.bytes s1 → Begins text (list_slices slices xs) us mid → Begins text (slice (Mark 41) (41 ∷ []) ∷ []) mid rest → ReadsAs (call text) (IsCall w xs) (token (Word w.keyword) s1 ∷ token (Mark 40) s2 ∷ us) rest
  unfolding call
  call_closed w xs s1 s2 us mid rest a1 first (more s3 a3 none) =
      let r = arguments_read xs us (token (Mark 41) s3 ∷ rest) s3 rest first refl in
      let n = word_spelled text w.bytes w.keyword s1 (token (Mark 40) s2 ∷ us) a1 in
      let h = headed_spelled {C = Name × List PlacedArgument} text open_paren close_paren (λ w xs. (w, xs)) (token (Mark 40) s2) (token (Mark 41) s3) n refl r.spelled refl in
      record { value = _; spelled = placed_spelled (λ c span. let d : Call = record { word = c.0; arguments = c.1; span = span } in d) h; is = record { word_span = s1; word_is = refl; are = r.is } }

  pub call_reads : (w : Term1) (xs : List X) (ts rest : List Token) → Begins text (word_slice w ∷ slice (Mark 40) (40 ∷ []) ∷ (list_slices slices xs ++ slice (Mark 41) (41 ∷ []) ∷ [])) ts rest → ReadsAs (call text) (IsCall w xs) ts rest
  call_reads w xs ts rest (more s1 a1 (more {ts = us} s2 a2 begins)) =
      let p = parted (list_slices slices xs) (slice (Mark 41) (41 ∷ []) ∷ []) begins in call_closed w xs s1 s2 us p.mid rest a1 p.first p.second
