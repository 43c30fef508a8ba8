-- What the values of a printed key's fields are spelled as.
use Rattle.std.proofs.Common.{◌≡◌, ℕ, ◌<◌, ◌^◌, Bool, true, false, List, [], ◌∷◌, ◌++◌, map, codes, refl, sym, ap, ◌∙◌, subst, arith}
use Rattle.std.proofs.lemmas.List.Folds.{flat_map-map}
use Rattle.std.specs.Fmt.{decimal}
use Rattle.ks_core.specs.PrintedName.{printed_name}
use Rattle.kx_lex.specs.Keywords.{keyword_of}
use Rattle.kx_lex.specs.Kinds.{front, is_mark, before_mark, number_value}
use Rattle.kx_lex.specs.Production.{Production, many}
use Rattle.kx_lex.specs.Tokens.{open_brace, close_brace, open_bracket, close_bracket, close_paren}
use Rattle.kx_lex.specs.declared.token.Span.{Span}
use Rattle.kx_lex.specs.declared.token.Token.{Token}
use Rattle.kx_lex.specs.declared.token.TokenKind.TheVariants.{Mark, Number, Text}
use Rattle.kx_tree.specs.Values.{symbol, term, operation, expression, sign, is_sign, begins_call, element, braces, part, list, call, value, argument}
use Rattle.kx_tree.specs.declared.tree.BracePart.{BracePart}
use Rattle.kx_tree.specs.declared.tree.BracePart.TheVariants as parts
use Rattle.kx_tree.specs.declared.tree.Braces.{Braces}
use Rattle.kx_tree.specs.declared.tree.Element.{Element}
use Rattle.kx_tree.specs.declared.tree.Element.TheVariants as elements
use Rattle.kx_tree.specs.declared.tree.Expression.{Expression}
use Rattle.kx_tree.specs.declared.tree.List.{List as Listed}
use Rattle.kx_tree.specs.declared.tree.Operation.{Operation}
use Rattle.kx_tree.specs.declared.tree.Sign.TheVariants.{Plus, Minus}
use Rattle.kx_tree.specs.declared.tree.Signed.{Signed as SignedNumber}
use Rattle.kx_tree.specs.declared.tree.Symbol.{Symbol}
use Rattle.kx_tree.specs.declared.tree.Symbol.TheVariants as symbols
use Rattle.kx_tree.specs.declared.tree.Term.TheVariants as terms
use Rattle.kx_tree.specs.declared.tree.Value.TheVariants as values
use Rattle.roundtrip_text.specs.Slices.{Slice, slice, Begins, none, more}
use Rattle.roundtrip_text.proofs.Phrases.{name_value}
use Rattle.roundtrip_text.proofs.Texts.{decimal_value}
use Rattle.roundtrip_text.specs.Source.{EachOf, are_bytes}
use Rattle.roundtrip_text.specs.KeyPhrases.{a_word, a_mark, a_number, a_text, KeysymPhrase, Worded, Numbered, keysym_slices, level_slices, ArgumentPhrase, Flag, Words, Natural, Signed, words_slices, sign_byte, argument_slices, CallPhrase, call_slices, listed_slices, bracket_slices}
use Rattle.roundtrip_tree.specs.Keys.{IsKeysymOf, IsPartOf, IsLevelOf, IsAddedWord, AreWordsOf, IsNumberOf, IsSignedOf, IsArgumentOf, IsCallOf, IsActionOf, IsListOf, IsTextOf}
use Rattle.roundtrip_tree.specs.Shows.{IsSpelled, ReadsAs, AreShown}
use Rattle.roundtrip_tree.specs.Shows.{none as shows_none, more as shows_more}
use Rattle.roundtrip_tree.proofs.KeyRows.{Kept, kept, kept_slices, kept_shown, each_listed}
use Rattle.roundtrip_tree.proofs.Rows.{Stops, stop, parted}
use Rattle.roundtrip_tree.proofs.Spellings.{after_spelled, mark_spelled, first_spelled, second_spelled, made_spelled, placed_spelled, both_spelled, ended_spelled}
use Rattle.roundtrip_tree.proofs.Terms.{Term1, plus_slices, IsPlus, IsTerms, terms_reads, text_expression_reads, set_argument_reads, flag_reads, call_reads, stop_no_sign}
use Rattle.roundtrip_tree.proofs.Tokens.{token, number_spelled, word_spelled}
use Rattle.roundtrip_tree.proofs.Values.{stop_ne, number_expression_reads}

-- what is read has a property, and so another that follows
pub reads_so : {A : Type 0} {p : Production A} {P Q : A → Type 0} {ts rest : List Token} → ((x : A) → P x → Q x) → ReadsAs p P ts rest → ReadsAs p Q ts rest
reads_so f r = record { value = r.value; spelled = r.spelled; is = f r.value r.is }

pub wide : (n : ℕ) → n < 2 ^ 32 → n < 2 ^ 64
wide n small = omega (arith, small)

-- ---- Keysyms

-- a number of a text fits
abbrev pub IsReadable : KeysymPhrase → Type 0
IsReadable (Worded bytes) = Unit {0}
IsReadable (Numbered bytes) = number_value bytes < 2 ^ 32

keysym_reads : (text : List ℕ) (s : KeysymPhrase) → IsReadable s → (ts rest : List Token) → Begins text (keysym_slices s) ts rest → ReadsAs (symbol text) (IsKeysymOf s) ts rest
unfolding symbol
keysym_reads text (Worded bytes) good ts rest (more span at none) =
    record { value = _; spelled = second_spelled _ refl (made_spelled symbols.Word (word_spelled text bytes (keyword_of bytes) span rest at)); is = (span, refl) }
keysym_reads text (Numbered bytes) good ts rest (more span at none) =
    record { value = _; spelled = first_spelled _ refl (made_spelled symbols.Number (number_spelled text bytes (number_value bytes) span rest refl good at)); is = (span, refl) }

-- no call begins before what ends a value
no_call : (text : List ℕ) (s : KeysymPhrase) (ts rest : List Token) → Begins text (keysym_slices s) ts rest → Stops rest → begins_call ts ≡ false
no_call text (Worded bytes) ts rest (more span at none) (stop {b} h) = stop_ne b 40 refl h
no_call text (Numbered bytes) ts rest (more span at none) (stop h) = refl

no_brace : (text : List ℕ) (s : KeysymPhrase) (ts rest : List Token) → Begins text (keysym_slices s) ts rest → front (is_mark open_brace) ts ≡ false
no_brace text (Worded bytes) ts rest (more span at none) = refl
no_brace text (Numbered bytes) ts rest (more span at none) = refl

starts_before : (text : List ℕ) (s : KeysymPhrase) (ts rest : List Token) → Begins text (keysym_slices s) ts rest → before_mark close_brace ts ≡ true
starts_before text (Worded bytes) ts rest (more span at none) = refl
starts_before text (Numbered bytes) ts rest (more span at none) = refl

part_reads : (text : List ℕ) (s : KeysymPhrase) → IsReadable s → (ts rest : List Token) → Begins text (keysym_slices s) ts rest → Stops rest → ReadsAs (part text) (IsPartOf s) ts rest
unfolding part
part_reads text s good ts rest begins h =
    let one = keysym_reads text s good ts rest begins in
    record { value = parts.Symbol one.value; spelled = second_spelled _ (no_call text s ts rest begins h) (made_spelled parts.Symbol one.spelled); is = (one.value, refl, one.is) }

single_reads : (text : List ℕ) (s : KeysymPhrase) → IsReadable s → (ts rest : List Token) → Begins text (keysym_slices s) ts rest → Stops rest → ReadsAs (element text) (λ e. (symbol : Symbol) × (e ≡ elements.Symbol symbol) × IsKeysymOf s symbol) ts rest
unfolding element
single_reads text s good ts rest begins h =
    let one = keysym_reads text s good ts rest begins in
    record {
      value = elements.Symbol one.value;
      spelled = second_spelled _ (no_brace text s ts rest begins) (second_spelled _ (no_call text s ts rest begins h) (made_spelled elements.Symbol one.spelled));
      is = (one.value, refl, one.is);
    }

-- several keysyms, from the brace that opens on
braces_read : (text : List ℕ) (ss : List KeysymPhrase) → EachOf IsReadable ss → (s1 : Span) (us mid rest : List Token) → Begins text (listed_slices keysym_slices ss) us mid → Begins text (a_mark 125 ∷ []) mid rest
    → ReadsAs (element text) (λ e. (braces : Braces) × (e ≡ elements.Braces braces) × AreShown IsPartOf ss braces.parts) (token (Mark 123) s1 ∷ us) rest
unfolding element braces
braces_read text ss good s1 us mid rest first (more s2 a2 none) =
    let r = each_listed text close_brace (part text) keysym_slices IsPartOf IsReadable (part_reads text) (starts_before text) ss good us (token (Mark 125) s2 ∷ rest) first (stop refl) refl refl in
    let b = placed_spelled (λ (ps : List BracePart) span. let d : Braces = record { parts = ps; span = span } in d)
    (after_spelled (mark_spelled text open_brace (token (Mark 123) s1) us refl) (ended_spelled text close_brace (token (Mark 125) s2) rest r.spelled refl)) in
    record { value = _; spelled = first_spelled _ refl (made_spelled elements.Braces b); is = (_, refl, r.is) }

pub level_reads : (text : List ℕ) (ss : List KeysymPhrase) → EachOf IsReadable ss → (ts rest : List Token) → Begins text (level_slices ss) ts rest → Stops rest → ReadsAs (element text) (IsLevelOf ss) ts rest
level_reads text [] good ts rest begins h =
    reads_so (λ e is. (is.2.0, is.1 ∙ ap elements.Symbol is.2.1)) (single_reads text (Worded (codes "NoSymbol")) tt ts rest begins h)
level_reads text (s ∷ []) good ts rest begins h = single_reads text s good.0 ts rest begins h
level_reads text (s ∷ t ∷ ss) good ts rest (more s1 a1 begins) h =
    let p = parted (listed_slices keysym_slices (s ∷ t ∷ ss)) (a_mark 125 ∷ []) begins in braces_read text (s ∷ t ∷ ss) good s1 _ p.mid rest p.first p.second

pub level_starts : (text : List ℕ) (ss : List KeysymPhrase) (ts rest : List Token) → Begins text (level_slices ss) ts rest → before_mark close_bracket ts ≡ true
level_starts text [] ts rest (more span at begins) = refl
level_starts text (Worded bytes ∷ []) ts rest (more span at begins) = refl
level_starts text (Numbered bytes ∷ []) ts rest (more span at begins) = refl
level_starts text (s ∷ t ∷ ss) ts rest (more span at begins) = refl

-- ---- Arguments

abbrev term_of : List ℕ → Term1
term_of w = record { keyword = keyword_of w; bytes = w }

shown_words : (ws : List (List ℕ)) (os : List Operation) → AreShown IsPlus (map term_of ws) os → AreShown IsAddedWord ws os
shown_words [] [] shows_none = shows_none
shown_words [] (o ∷ os) are = elim are [ ]
shown_words (w ∷ ws) [] are = elim are [ ]
shown_words (w ∷ ws) (o ∷ os) (shows_more one are) = shows_more one (shown_words ws os are)

words_read : (text w : List ℕ) (ws : List (List ℕ)) (ts rest : List Token) → Begins text (words_slices (w ∷ ws)) ts rest → front is_sign rest ≡ false → ReadsAs (expression text) (AreWordsOf (w ∷ ws)) ts rest
words_read text w ws ts rest begins last =
    reads_so (λ e (is : IsTerms (term_of w) (map term_of ws) e). (is.first, shown_words ws e.rest is.rest))
    (terms_reads text (term_of w) (map term_of ws) ts rest (subst (λ ss. Begins text (a_word w ∷ ss) ts rest) (sym (flat_map-map plus_slices term_of ws)) begins) last)

signed_reads : (text : List ℕ) (rises : Bool) (n : ℕ) → n < 2 ^ 32 → (ts rest : List Token) → Begins text (a_mark (sign_byte rises) ∷ a_number n ∷ []) ts rest → Stops rest → ReadsAs (expression text) (IsSignedOf rises n) ts rest
unfolding expression term sign
signed_reads text true n small ts rest (more s1 a1 (more s2 a2 none)) h =
    let plus : IsSpelled (sign text) (token (Mark 43) s1 ∷ token Number s2 ∷ rest) Plus (token Number s2 ∷ rest) = record { spelled = (token (Mark 43) s1, _, (refl, refl), (refl, refl)) } in
    let m = number_spelled text (decimal n) n s2 rest (decimal_value n (wide n small)) small a2 in
    let t = first_spelled _ refl (made_spelled terms.Signed (placed_spelled (λ s span. let d : SignedNumber = record { sign = s.0; number = s.1; span = span } in d) (both_spelled plus m))) in
    let nothing : IsSpelled (many (front is_sign) (operation text)) rest [] rest = record { spelled = (refl, stop_no_sign rest h) } in
    record { value = _; spelled = placed_spelled (λ e whole. record { first = e.0; rest = e.1; span = whole }) (both_spelled t nothing); is = (_, s2, _, refl) }
signed_reads text false n small ts rest (more s1 a1 (more s2 a2 none)) h =
    let minus : IsSpelled (sign text) (token (Mark 45) s1 ∷ token Number s2 ∷ rest) Minus (token Number s2 ∷ rest) = record { spelled = (token (Mark 45) s1, _, (refl, refl), (refl, refl)) } in
    let m = number_spelled text (decimal n) n s2 rest (decimal_value n (wide n small)) small a2 in
    let t = first_spelled _ refl (made_spelled terms.Signed (placed_spelled (λ s span. let d : SignedNumber = record { sign = s.0; number = s.1; span = span } in d) (both_spelled minus m))) in
    let nothing : IsSpelled (many (front is_sign) (operation text)) rest [] rest = record { spelled = (refl, stop_no_sign rest h) } in
    record { value = _; spelled = placed_spelled (λ e whole. record { first = e.0; rest = e.1; span = whole }) (both_spelled t nothing); is = (_, s2, _, refl) }

abbrev pub IsSaid : ArgumentPhrase → Type 0
IsSaid (Flag w) = Unit {0}
IsSaid (Words w []) = ⊥
IsSaid (Words w (v ∷ vs)) = Unit {0}
IsSaid (Natural w n) = n < 2 ^ 32
IsSaid (Signed w rises n) = n < 2 ^ 32

argument_reads : (text : List ℕ) (a : ArgumentPhrase) → IsSaid a → (ts rest : List Token) → Begins text (argument_slices a) ts rest → Stops rest → ReadsAs (argument text) (IsArgumentOf a) ts rest
argument_reads text (Flag w) good ts rest begins h = reads_so (λ a is. (is.value, is.argument_is, (is.is.first, shown_words [] is.value.rest is.is.rest))) (flag_reads text (term_of w) ts rest begins h)
argument_reads text (Words w []) good ts rest begins h = absurd good
argument_reads text (Words w (v ∷ vs)) good ts rest begins h =
    reads_so (λ a is. (is.word_span, is.value, is.argument_is, is.is)) (set_argument_reads text (term_of w) (words_slices (v ∷ vs)) (AreWordsOf (v ∷ vs)) (λ ts rest b h. words_read text v vs ts rest b (stop_no_sign rest h)) ts rest begins h)
argument_reads text (Natural w n) good ts rest begins h =
    reads_so (λ a is. (is.word_span, is.value, is.argument_is, is.is)) (set_argument_reads text (term_of w) (a_number n ∷ []) (IsNumberOf n) (λ ts rest b h. number_expression_reads text (decimal n) n (decimal_value n (wide n good)) good ts rest b h) ts rest begins h)
argument_reads text (Signed w rises n) good ts rest begins h =
    reads_so (λ a is. (is.word_span, is.value, is.argument_is, is.is)) (set_argument_reads text (term_of w) (a_mark (sign_byte rises) ∷ a_number n ∷ []) (IsSignedOf rises n) (λ ts rest b h. signed_reads text rises n good ts rest b h) ts rest begins h)

argument_starts : (text : List ℕ) (a : ArgumentPhrase) (ts rest : List Token) → Begins text (argument_slices a) ts rest → before_mark close_paren ts ≡ true
argument_starts text (Flag w) ts rest (more span at begins) = refl
argument_starts text (Words w ws) ts rest (more span at begins) = refl
argument_starts text (Natural w n) ts rest (more span at begins) = refl
argument_starts text (Signed w rises n) ts rest (more span at begins) = refl

-- ---- Calls

abbrev pub IsSayable : CallPhrase → Type 0
IsSayable c = EachOf IsSaid c.arguments

call_phrase_reads : (text : List ℕ) (c : CallPhrase) → IsSayable c → (ts rest : List Token) → Begins text (call_slices c) ts rest → ReadsAs (call text) (IsCallOf c) ts rest
call_phrase_reads text c good ts rest begins =
    reads_so (λ d is. record { word_span = is.word_span; word_is = is.word_is; are = kept_shown IsSaid IsArgumentOf c.arguments good d.arguments is.are })
    (call_reads text (λ (k : Kept IsSaid). argument_slices k.0) (λ (k : Kept IsSaid) a. IsArgumentOf k.0 a) (λ k ts rest b h. argument_reads text k.0 k.1 ts rest b h) (λ k ts rest b. argument_starts text k.0 ts rest b)
    (term_of c.word) (kept IsSaid c.arguments good) ts rest
    (subst (λ ss. Begins text (a_word c.word ∷ a_mark 40 ∷ (ss ++ a_mark 41 ∷ [])) ts rest) (sym (kept_slices IsSaid argument_slices c.arguments good)) begins))

-- a word and a parenthesis begin it
call_begins : (text : List ℕ) (c : CallPhrase) (ts rest : List Token) → Begins text (call_slices c) ts rest → (front (is_mark open_brace) ts ≡ false) × (begins_call ts ≡ true)
call_begins text c ts rest (more s1 a1 (more s2 a2 begins)) = (refl, refl)

pub action_reads : (text : List ℕ) (c : CallPhrase) → IsSayable c → (ts rest : List Token) → Begins text (call_slices c) ts rest → Stops rest → ReadsAs (element text) (IsActionOf c) ts rest
unfolding element
action_reads text c good ts rest begins h =
    let r = call_phrase_reads text c good ts rest begins in
    let b = call_begins text c ts rest begins in
    record { value = elements.Call r.value; spelled = second_spelled _ b.0 (first_spelled _ b.1 (made_spelled elements.Call r.spelled)); is = (r.value, refl, r.is) }

pub action_starts : (text : List ℕ) (c : CallPhrase) (ts rest : List Token) → Begins text (call_slices c) ts rest → before_mark close_bracket ts ≡ true
action_starts text c ts rest (more span at begins) = refl

-- ---- Values

module _ {X : Type 0} (text : List ℕ) (slices : X → List Slice) (Is : X → Element → Type 0) (P : X → Type 0)
    (reads : (x : X) → P x → (ts rest : List Token) → Begins text (slices x) ts rest → Stops rest → ReadsAs (element text) (Is x) ts rest)
    (starts : (x : X) (ts rest : List Token) → Begins text (slices x) ts rest → before_mark close_bracket ts ≡ true) where
  -- from the bracket that opens on
  list_closes : (xs : List X) → EachOf P xs → (s1 : Span) (us mid rest : List Token) → Begins text (listed_slices slices xs) us mid → Begins text (a_mark 93 ∷ []) mid rest → ReadsAs (value text) (IsListOf Is xs) (token (Mark 91) s1 ∷ us) rest
  unfolding value list
  list_closes xs good s1 us mid rest first (more s2 a2 none) =
      let r = each_listed text close_bracket (element text) slices Is P reads starts xs good us (token (Mark 93) s2 ∷ rest) first (stop refl) refl refl in
      let l = placed_spelled (λ (es : List Element) span. let d : Listed = record { elements = es; span = span } in d)
      (after_spelled (mark_spelled text open_bracket (token (Mark 91) s1) us refl) (ended_spelled text close_bracket (token (Mark 93) s2) rest r.spelled refl)) in
      record { value = _; spelled = first_spelled _ refl (made_spelled values.List l); is = (_, refl, r.is) }

  pub list_reads : (xs : List X) → EachOf P xs → (ts rest : List Token) → Begins text (bracket_slices slices xs) ts rest → ReadsAs (value text) (IsListOf Is xs) ts rest
  list_reads xs good ts rest (more s1 a1 begins) = let p = parted (listed_slices slices xs) (a_mark 93 ∷ []) begins in list_closes xs good s1 _ p.mid rest p.first p.second

text_begins : (text bytes : List ℕ) (ts rest : List Token) → Begins text (slice Text bytes ∷ []) ts rest → (front (is_mark open_bracket) ts ≡ false) × (begins_call ts ≡ false)
text_begins text bytes ts rest (more span at none) = (refl, refl)

pub text_reads : (text name : List ℕ) → are_bytes name → (ts rest : List Token) → Begins text (a_text name ∷ []) ts rest → Stops rest → ReadsAs (value text) (IsTextOf name) ts rest
unfolding value
text_reads text name bytes ts rest begins h =
    let r = text_expression_reads text (printed_name name) name (name_value name bytes) ts rest begins (stop_no_sign rest h) in
    let b = text_begins text _ ts rest begins in
    record { value = values.Expression r.value; spelled = second_spelled _ b.0 (second_spelled _ b.1 (made_spelled values.Expression r.spelled)); is = (r.is.0, r.is.1, ap values.Expression r.is.2) }

number_begins : (text bytes : List ℕ) (ts rest : List Token) → Begins text (slice Number bytes ∷ []) ts rest → (front (is_mark open_bracket) ts ≡ false) × (begins_call ts ≡ false)
number_begins text bytes ts rest (more span at none) = (refl, refl)

pub number_reads : (text : List ℕ) (n : ℕ) → n < 2 ^ 32 → (ts rest : List Token) → Begins text (a_number n ∷ []) ts rest → Stops rest → ReadsAs (value text) (λ v. (e : Expression) × (v ≡ values.Expression e) × IsNumberOf n e) ts rest
unfolding value
number_reads text n small ts rest begins h =
    let r = number_expression_reads text (decimal n) n (decimal_value n (wide n small)) small ts rest begins h in
    let b = number_begins text _ ts rest begins in
    record { value = values.Expression r.value; spelled = second_spelled _ b.0 (second_spelled _ b.1 (made_spelled values.Expression r.spelled)); is = (r.value, refl, r.is) }
