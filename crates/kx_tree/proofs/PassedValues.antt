-- Symbols, expressions, calls and lists that are passed over by their bytes.
use Rattle.std.proofs.Common.{◌≡◌, ℕ, ◌==◌, ◌||◌, ◌&&◌, Bool, true, false, not, List, [], ◌∷◌, Option, Some, None, if◌then◌else◌, drop, refl, inl, inr}
use Rattle.std.proofs.lemmas.Bool.{eqb-true}
use Rattle.kx_lex.specs.Kinds.{before_mark, front, second, is_word_kind, is_key_name, is_keyword, is_mark, is_number, is_text, is_word}
use Rattle.kx_lex.specs.Passing.{Ends, ReadsEnd, Passes, IsAtToken, IsNoWord, front_byte}
use Rattle.kx_lex.specs.Production.{Production, optional}
use Rattle.kx_lex.specs.Tokens.{bang, close_brace, close_bracket, close_paren, equals, key_name, mark, number, open_brace, open_bracket, open_paren, point, text_name, word}
use Rattle.kx_lex.specs.contracts.token.TokenKindPartialEq.TheImpl.{ghosts}
use Rattle.kx_lex.specs.declared.keyword.Keyword.{Keyword}
use Rattle.kx_lex.specs.declared.name.Name.{Name}
use Rattle.kx_lex.specs.declared.token.Token.{Token}
use Rattle.kx_lex.specs.declared.token.TokenKind.{TokenKind}
use Rattle.kx_lex.specs.declared.token.TokenKind.TheVariants.{Word, Number as NumberKind, KeyName, Text, Mark}
use Rattle.kx_lex.proofs.Others.{other-keyword}
use Rattle.kx_lex.proofs.PassedOver.{Lexes-more, Lexes-self, no_mark, no_word}
use Rattle.kx_lex.proofs.TokenLaws.{key_name-front, mark-front, number-front, text_name-front, word-behind, word-front}
use Rattle.kx_tree.specs.Forms.{ended, listed}
use Rattle.kx_tree.specs.Passing.{call_behind, operations, place_behind, set_behind}
use Rattle.kx_tree.specs.Values.{argument, bare_argument, begins_call, begins_set, braces, call, element, expression, index, is_sign, list, member, off_argument, operation, optional_index, optional_member, part, place, set_argument, sign, sign_of, signed, symbol, term, value}
use Rattle.kx_tree.specs.declared.tree.Argument.{Argument}
use Rattle.kx_tree.specs.declared.tree.Argument.TheVariants as arguments
use Rattle.kx_tree.specs.declared.tree.BracePart.{BracePart}
use Rattle.kx_tree.specs.declared.tree.Call.{Call}
use Rattle.kx_tree.specs.declared.tree.Element.{Element}
use Rattle.kx_tree.specs.declared.tree.Expression.{Expression}
use Rattle.kx_tree.specs.declared.tree.FieldPlace.{FieldPlace}
use Rattle.kx_tree.specs.declared.tree.Index.{Index}
use Rattle.kx_tree.specs.declared.tree.Sign.{Sign}
use Rattle.kx_tree.specs.declared.tree.Sign.TheVariants.{Plus, Minus}
use Rattle.kx_tree.proofs.LawfulValues.{call-begins, index-front, list-front, member-front, operation-front, set_argument-begins, signed-front, symbol-before, braces-front}
use Rattle.kx_tree.proofs.PassedForms.{after-passes, both-passes, ended-passes, headed-from, made2-passes, more-passes, none-passes, not_both, placed-passes, two}

-- a token of one kind is of no other
word_kind-no_number : (k : TokenKind) → is_word_kind k ≡ true → ghosts.eq k NumberKind ≡ false
word_kind-no_number (Word w) h = refl
word_kind-no_number _ h = cc

word_kind-no_text : (k : TokenKind) → is_word_kind k ≡ true → ghosts.eq k Text ≡ false
word_kind-no_text (Word w) h = refl
word_kind-no_text _ h = cc

word_kind-no_key_name : (k : TokenKind) → is_word_kind k ≡ true → ghosts.eq k KeyName ≡ false
word_kind-no_key_name (Word w) h = refl
word_kind-no_key_name _ h = cc

word_kind-no_mark : (k : TokenKind) (byte : ℕ) → is_word_kind k ≡ true → ghosts.eq k (Mark byte) ≡ false
word_kind-no_mark (Word w) byte h = refl
word_kind-no_mark _ byte h = cc

number_kind-no_mark : (k : TokenKind) (byte : ℕ) → ghosts.eq k NumberKind ≡ true → ghosts.eq k (Mark byte) ≡ false
number_kind-no_mark NumberKind byte h = refl
number_kind-no_mark _ byte h = cc

number_kind-no_word : (k : TokenKind) → ghosts.eq k NumberKind ≡ true → is_word_kind k ≡ false
number_kind-no_word NumberKind h = refl
number_kind-no_word _ h = cc

text_kind-no_mark : (k : TokenKind) (byte : ℕ) → ghosts.eq k Text ≡ true → ghosts.eq k (Mark byte) ≡ false
text_kind-no_mark Text byte h = refl
text_kind-no_mark _ byte h = cc

text_kind-no_number : (k : TokenKind) → ghosts.eq k Text ≡ true → ghosts.eq k NumberKind ≡ false
text_kind-no_number Text h = refl
text_kind-no_number _ h = cc

key_name_kind-no_mark : (k : TokenKind) (byte : ℕ) → ghosts.eq k KeyName ≡ true → ghosts.eq k (Mark byte) ≡ false
key_name_kind-no_mark KeyName byte h = refl
key_name_kind-no_mark _ byte h = cc

key_name_kind-no_number : (k : TokenKind) → ghosts.eq k KeyName ≡ true → ghosts.eq k NumberKind ≡ false
key_name_kind-no_number KeyName h = refl
key_name_kind-no_number _ h = cc

key_name_kind-no_text : (k : TokenKind) → ghosts.eq k KeyName ≡ true → ghosts.eq k Text ≡ false
key_name_kind-no_text KeyName h = refl
key_name_kind-no_text _ h = cc

key_name_kind-no_word : (k : TokenKind) → ghosts.eq k KeyName ≡ true → is_word_kind k ≡ false
key_name_kind-no_word KeyName h = refl
key_name_kind-no_word _ h = cc

number_kind-no_key_name : (k : TokenKind) → ghosts.eq k NumberKind ≡ true → ghosts.eq k KeyName ≡ false
number_kind-no_key_name NumberKind h = refl
number_kind-no_key_name _ h = cc

other_kind : (k : TokenKind) (a b : ℕ) → (a == b) ≡ false → ghosts.eq k (Mark a) ≡ true → ghosts.eq k (Mark b) ≡ false
other_kind (Mark m) a b d h = rw (eqb-true m a h) d
other_kind _ a b d h = refl

pub mark_kind-no_word : (k : TokenKind) (byte : ℕ) → ghosts.eq k (Mark byte) ≡ true → is_word_kind k ≡ false
mark_kind-no_word (Mark b) byte h = refl
mark_kind-no_word _ byte h = cc

pub mark_kind-no_number : (k : TokenKind) (byte : ℕ) → ghosts.eq k (Mark byte) ≡ true → ghosts.eq k NumberKind ≡ false
mark_kind-no_number (Mark b) byte h = refl
mark_kind-no_number _ byte h = cc

pub mark_kind-no_text : (k : TokenKind) (byte : ℕ) → ghosts.eq k (Mark byte) ≡ true → ghosts.eq k Text ≡ false
mark_kind-no_text (Mark b) byte h = refl
mark_kind-no_text _ byte h = cc

pub mark_kind-no_key_name : (k : TokenKind) (byte : ℕ) → ghosts.eq k (Mark byte) ≡ true → ghosts.eq k KeyName ≡ false
mark_kind-no_key_name (Mark b) byte h = refl
mark_kind-no_key_name _ byte h = cc

pub word-no_number : (us : List Token) → front is_word us ≡ true → front is_number us ≡ false
word-no_number [] h = refl
word-no_number (t ∷ ts) h = word_kind-no_number t.kind h

pub word-no_text : (us : List Token) → front is_word us ≡ true → front is_text us ≡ false
word-no_text [] h = refl
word-no_text (t ∷ ts) h = word_kind-no_text t.kind h

pub word-no_key_name : (us : List Token) → front is_word us ≡ true → front is_key_name us ≡ false
word-no_key_name [] h = refl
word-no_key_name (t ∷ ts) h = word_kind-no_key_name t.kind h

pub word-no_mark : (us : List Token) (byte : ℕ) → front is_word us ≡ true → front (is_mark byte) us ≡ false
word-no_mark [] byte h = refl
word-no_mark (t ∷ ts) byte h = word_kind-no_mark t.kind byte h

pub number-no_mark : (us : List Token) (byte : ℕ) → front is_number us ≡ true → front (is_mark byte) us ≡ false
number-no_mark [] byte h = refl
number-no_mark (t ∷ ts) byte h = number_kind-no_mark t.kind byte h

pub number-no_word : (us : List Token) → front is_number us ≡ true → front is_word us ≡ false
number-no_word [] h = refl
number-no_word (t ∷ ts) h = number_kind-no_word t.kind h

text-no_mark : (us : List Token) (byte : ℕ) → front is_text us ≡ true → front (is_mark byte) us ≡ false
text-no_mark [] byte h = refl
text-no_mark (t ∷ ts) byte h = text_kind-no_mark t.kind byte h

pub number-no_key_name : (us : List Token) → front is_number us ≡ true → front is_key_name us ≡ false
number-no_key_name [] h = refl
number-no_key_name (t ∷ ts) h = number_kind-no_key_name t.kind h

-- one mark isn't another
pub other_mark : (us : List Token) (a b : ℕ) → (a == b) ≡ false → front (is_mark a) us ≡ true → front (is_mark b) us ≡ false
other_mark [] a b d h = refl
other_mark (t ∷ ts) a b d h = other_kind t.kind a b d h

pub text-no_number : (us : List Token) → front is_text us ≡ true → front is_number us ≡ false
text-no_number [] h = refl
text-no_number (t ∷ ts) h = text_kind-no_number t.kind h

pub key_name-no_mark : (us : List Token) (byte : ℕ) → front is_key_name us ≡ true → front (is_mark byte) us ≡ false
key_name-no_mark [] byte h = refl
key_name-no_mark (t ∷ ts) byte h = key_name_kind-no_mark t.kind byte h

key_name-no_number : (us : List Token) → front is_key_name us ≡ true → front is_number us ≡ false
key_name-no_number [] h = refl
key_name-no_number (t ∷ ts) h = key_name_kind-no_number t.kind h

key_name-no_text : (us : List Token) → front is_key_name us ≡ true → front is_text us ≡ false
key_name-no_text [] h = refl
key_name-no_text (t ∷ ts) h = key_name_kind-no_text t.kind h

pub key_name-no_word : (us : List Token) → front is_key_name us ≡ true → front is_word us ≡ false
key_name-no_word [] h = refl
key_name-no_word (t ∷ ts) h = key_name_kind-no_word t.kind h

pub mark-no_word : (us : List Token) (byte : ℕ) → front (is_mark byte) us ≡ true → front is_word us ≡ false
mark-no_word [] byte h = refl
mark-no_word (t ∷ ts) byte h = mark_kind-no_word t.kind byte h

-- where no word stands, no keyword does
pub word_none-no_keyword : (keyword : Keyword) (us : List Token) → front is_word us ≡ false → front (is_keyword keyword) us ≡ false
unfolding is_keyword
word_none-no_keyword keyword [] h = refl
word_none-no_keyword keyword (t ∷ ts) h = other-keyword keyword t.kind h

-- neither sign stands there
no_signs : (us : List Token) → front (is_mark 43) us ≡ false → front (is_mark 45) us ≡ false → front is_sign us ≡ false
no_signs [] p m = refl
no_signs (t ∷ ts) p m = rw (p, m) refl

word-no_sign : (us : List Token) → front is_word us ≡ true → front is_sign us ≡ false
word-no_sign us h = no_signs us (word-no_mark us 43 h) (word-no_mark us 45 h)

number-no_sign : (us : List Token) → front is_number us ≡ true → front is_sign us ≡ false
number-no_sign us h = no_signs us (number-no_mark us 43 h) (number-no_mark us 45 h)

text-no_sign : (us : List Token) → front is_text us ≡ true → front is_sign us ≡ false
text-no_sign us h = no_signs us (text-no_mark us 43 h) (text-no_mark us 45 h)

key_name-no_sign : (us : List Token) → front is_key_name us ≡ true → front is_sign us ≡ false
key_name-no_sign us h = no_signs us (key_name-no_mark us 43 h) (key_name-no_mark us 45 h)

pub symbol-number : {bs rest : List ℕ} → Passes number bs rest → Passes symbol bs rest
unfolding symbol
symbol-number a = record {
  lexes = a.lexes;
  spelled = λ text us ends r. let s = a.spelled text us ends r in (_, s.1, inl (number-front text us s.0 s.1 s.2, (s.0, s.1, s.2, (refl, refl))), s.3);
}

pub symbol-word : {bs rest : List ℕ} → Passes word bs rest → Passes symbol bs rest
unfolding symbol
symbol-word a = record {
  lexes = a.lexes;
  spelled = λ text us ends r. let s = a.spelled text us ends r in (_, s.1, inr (word-no_number us (word-front text us s.0 s.1 s.2), (s.0, s.1, s.2, (refl, refl))), s.3);
}

sign-spelled : (byte : ℕ) {bs rest : List ℕ} (value : Sign) → ((t : Token) → is_mark byte t ≡ true → sign_of t ≡ Some value) → Passes (λ text. mark text byte) bs rest → Passes sign bs rest
unfolding mark sign
sign-spelled byte value is a = record {
  lexes = a.lexes;
  spelled = λ text us ends r.
      let s = a.spelled text us ends r in
      let known = is s.0 s.2.1 in
      (value, s.1, (s.0, s.1, (s.2.0, rw known refl), (rw known refl, refl)), s.3);
}

plus_sign : (t : Token) → is_mark 43 t ≡ true → sign_of t ≡ Some Plus
plus_sign t h = rw h refl

minus_sign : (t : Token) → is_mark 45 t ≡ true → sign_of t ≡ Some Minus
minus_sign t h = by t.kind h
  where
    by : (k : TokenKind) → ghosts.eq k (Mark 45) ≡ true → (if ghosts.eq k (Mark 43) then Some Plus else (if ghosts.eq k (Mark 45) then Some Minus else None)) ≡ Some Minus
    by (Mark b) e = rw (eqb-true b 45 e) refl
    by _ e = cc

pub sign-plus : {bs rest : List ℕ} → Passes (λ text. mark text 43) bs rest → Passes sign bs rest
sign-plus a = sign-spelled 43 Plus plus_sign a

pub sign-minus : {bs rest : List ℕ} → Passes (λ text. mark text 45) bs rest → Passes sign bs rest
sign-minus a = sign-spelled 45 Minus minus_sign a

pub signed-passes : {bs mid rest : List ℕ} → Passes sign bs mid → Passes number mid rest → Passes signed bs rest
signed-passes a b = placed-passes _ (both-passes a b)

pub term-signed : {bs rest : List ℕ} → Passes signed bs rest → Passes term bs rest
unfolding term
term-signed a = record {
  lexes = a.lexes;
  spelled = λ text us ends r. let s = a.spelled text us ends r in (_, s.1, inl (signed-front text us s.0 s.1 s.2, (s.0, s.1, s.2, (refl, refl))), s.3);
}

pub term-number : {bs rest : List ℕ} → Passes number bs rest → Passes term bs rest
unfolding term
term-number a = record {
  lexes = a.lexes;
  spelled = λ text us ends r.
      let s = a.spelled text us ends r in
      let is = number-front text us s.0 s.1 s.2 in
      (_, s.1, inr (number-no_sign us is, inl (is, (s.0, s.1, s.2, (refl, refl)))), s.3);
}

pub term-text : {bs rest : List ℕ} → Passes text_name bs rest → Passes term bs rest
unfolding term
term-text a = record {
  lexes = a.lexes;
  spelled = λ text us ends r.
      let s = a.spelled text us ends r in
      let is = text_name-front text us s.0 s.1 s.2 in
      (_, s.1, inr (text-no_sign us is, inr (text-no_number us is, inl (is, (s.0, s.1, s.2, (refl, refl))))), s.3);
}

pub term-key_name : {bs rest : List ℕ} → Passes key_name bs rest → Passes term bs rest
unfolding term
term-key_name a = record {
  lexes = a.lexes;
  spelled = λ text us ends r.
      let s = a.spelled text us ends r in
      let is = key_name-front text us s.0 s.1 s.2 in
      (_, s.1, inr (key_name-no_sign us is, inr (key_name-no_number us is, inr (key_name-no_text us is, inl (is, (s.0, s.1, s.2, (refl, refl)))))), s.3);
}

pub term-word : {bs rest : List ℕ} → Passes word bs rest → Passes term bs rest
unfolding term
term-word a = record {
  lexes = a.lexes;
  spelled = λ text us ends r.
      let s = a.spelled text us ends r in
      let is = word-front text us s.0 s.1 s.2 in
      (_, s.1, inr (word-no_sign us is, inr (word-no_number us is, inr (word-no_text us is, inr (word-no_key_name us is, (s.0, s.1, s.2, (refl, refl)))))), s.3);
}

pub operation-passes : {bs mid rest : List ℕ} → Passes sign bs mid → Passes term mid rest → Passes operation bs rest
unfolding operation
operation-passes a b = made2-passes _ a b

no_sign : (text bs : List ℕ) (us : List Token) → IsAtToken bs → (front_byte 43 bs || front_byte 45 bs) ≡ false → ReadsEnd text bs us → front is_sign us ≡ false
no_sign text bs us at h r = by (front_byte 43 bs) refl (front_byte 45 bs) refl h
  where
    by : (p : Bool) → front_byte 43 bs ≡ p → (m : Bool) → front_byte 45 bs ≡ m → (p || m) ≡ false → front is_sign us ≡ false
    by true e m f w = cc
    by false e true f w = cc
    by false e false f w = no_signs us (no_mark text bs us 43 at e r) (no_mark text bs us 45 at f r)

pub operations-none : (bs : List ℕ) → IsAtToken bs → (front_byte 43 bs || front_byte 45 bs) ≡ false → Passes operations bs bs
operations-none bs at h = none-passes operation bs (front is_sign) (λ text ts ends r. no_sign text bs ts at h r)

pub operations-more : {bs mid rest : List ℕ} → Passes operation bs mid → Passes operations mid rest → Passes operations bs rest
operations-more a b = more-passes (front is_sign) operation-front a b

pub expression-passes : {bs mid rest : List ℕ} → Passes term bs mid → Passes operations mid rest → Passes expression bs rest
unfolding expression
expression-passes a b = placed-passes _ (both-passes a b)

pub index-passes : {bs m1 m2 rest : List ℕ} → Passes (λ text. mark text open_bracket) bs m1 → Passes expression m1 m2 → Passes (λ text. mark text close_bracket) m2 rest → Passes index bs rest
unfolding index
index-passes o e c = placed-passes _ (after-passes o (ended-passes close_bracket e c))

pub optional_index-some : {bs rest : List ℕ} → Passes index bs rest → Passes optional_index bs rest
optional_index-some a = record {
  lexes = a.lexes;
  spelled = λ text us ends r. let s = a.spelled text us ends r in (_, s.1, inl (index-front text us s.0 s.1 s.2, (s.0, s.1, s.2, (refl, refl))), s.3);
}

-- nothing where the mark that begins it doesn't stand
pub optional-none : {A : Type 0} (p : List ℕ → Production A) (byte : ℕ) (bs : List ℕ) → IsAtToken bs → front_byte byte bs ≡ false → Passes (λ text. optional (front (is_mark byte)) (p text)) bs bs
optional-none p byte bs at h = record {
  lexes = Lexes-self bs;
  spelled = λ text us ends r. (None, us, inr (no_mark text bs us byte at h r, (refl, refl)), r);
}

pub member-passes : {bs mid rest : List ℕ} → Passes (λ text. mark text point) bs mid → Passes word mid rest → Passes member bs rest
unfolding member
member-passes a b = after-passes a b

pub optional_member-some : {bs rest : List ℕ} → Passes member bs rest → Passes optional_member bs rest
optional_member-some a = record {
  lexes = a.lexes;
  spelled = λ text us ends r. let s = a.spelled text us ends r in (_, s.1, inl (member-front text us s.0 s.1 s.2, (s.0, s.1, s.2, (refl, refl))), s.3);
}

-- a field's place, of its word and what stands after it
pub place-spelled : (text : List ℕ) (us : List Token) (w : Name) (ms : List Token) → (word text).spells us w ms → (p : Option Name × Option Index) (ts : List Token) → (place_behind text).spells ms p ts → (x : FieldPlace) × (place text).spells us x ts
unfolding place
place-spelled text us w ms a p ts s = (_, (w, ms, a, (s.0, s.1, s.2, (s.3.0, s.3.1, s.3.2, (refl, s.3.3.1)))))

pub place-passes : {bs mid rest : List ℕ} → Passes word bs mid → Passes place_behind mid rest → Passes place bs rest
place-passes a b = record {
  lexes = Lexes-more a.lexes b.lexes;
  spelled = λ text us ends r.
      let s = two a b text us ends r in
      let p = place-spelled text us s.0 s.1 s.2 s.3 s.4 s.5 in
      (p.0, s.4, p.1, s.6);
}

argument-passes : {bs rest : List ℕ} → Passes bare_argument bs rest → Passes argument bs rest
unfolding argument
argument-passes a = placed-passes _ a

bare-off : {bs mid rest : List ℕ} → Passes (λ text. mark text bang) bs mid → Passes word mid rest → Passes bare_argument bs rest
unfolding off_argument
bare-off a b = record {
  lexes = Lexes-more a.lexes b.lexes;
  spelled = λ text us ends r.
      let s = two a b text us ends r in
      (arguments.Off s.3, s.4, inl (mark-front text bang us s.0 s.1 s.2, (s.0, s.1, s.2, (s.3, s.4, s.5, (refl, refl)))), s.6);
}

pub argument-off : {bs mid rest : List ℕ} → Passes (λ text. mark text bang) bs mid → Passes word mid rest → Passes argument bs rest
argument-off a b = argument-passes (bare-off a b)

set-spelled : (text : List ℕ) (us : List Token) (w : Name) (ms : List Token) → (word text).spells us w ms → (pair : Option Index × Expression) (ts : List Token) → (set_behind text).spells ms pair ts → (x : Argument) × (set_argument text).spells us x ts
unfolding set_argument
set-spelled text us w ms a pair ts s = (arguments.Set w s.0 s.3.3.0, (w, ms, a, (s.0, s.1, s.2, (s.3.0, s.3.1, s.3.2, (s.3.3.0, s.3.3.1, s.3.3.2, (refl, s.3.3.3.1))))))

bare-set : {bs mid rest : List ℕ} → Passes word bs mid → Passes set_behind mid rest → Passes bare_argument bs rest
bare-set a b = record {
  lexes = Lexes-more a.lexes b.lexes;
  spelled = λ text us ends r.
      let s = two a b text us ends r in
      let set = set-spelled text us s.0 s.1 s.2 s.3 s.4 s.5 in
      (set.0, s.4, inr (word-no_mark us bang (word-front text us s.0 s.1 s.2), inl (set_argument-begins text us set.0 s.4 set.1, set.1)), s.6);
}

pub argument-set : {bs mid rest : List ℕ} → Passes word bs mid → Passes set_behind mid rest → Passes argument bs rest
argument-set a b = argument-passes (bare-set a b)

-- a plain argument, where neither ! nor a word with = or an index stands
bare-plain : {bs rest : List ℕ} → ((text : List ℕ) (us : List Token) → Ends text bs → ReadsEnd text bs us → (front (is_mark bang) us ≡ false) × (begins_set us ≡ false)) → Passes expression bs rest → Passes bare_argument bs rest
bare-plain plain a = record {
  lexes = a.lexes;
  spelled = λ text us ends r.
      let s = a.spelled text us ends r in
      let never = plain text us ends r in
      (arguments.Plain s.0, s.1, inr (never.0, inr (never.1, (s.0, s.1, s.2, (refl, refl)))), s.3);
}

argument-plain : {bs rest : List ℕ} → ((text : List ℕ) (us : List Token) → Ends text bs → ReadsEnd text bs us → (front (is_mark bang) us ≡ false) × (begins_set us ≡ false)) → Passes expression bs rest → Passes argument bs rest
argument-plain plain a = argument-passes (bare-plain plain a)

-- where no word stands
pub argument-expression : {bs rest : List ℕ} → IsAtToken bs → front_byte 33 bs ≡ false → IsNoWord bs → Passes expression bs rest → Passes argument bs rest
argument-expression {bs} at h never a = argument-plain (λ text us ends r. (no_mark text bs us 33 at h r, rw (no_word text bs us at never r) refl)) a

-- what stands after a word at the front
pub behind_word : {bs mid : List ℕ} → Passes word bs mid → (text : List ℕ) (us : List Token) → Ends text bs → ReadsEnd text bs us → (front is_word us ≡ true) × ReadsEnd text mid (drop 1 us)
behind_word a text us ends r =
    let s = a.spelled text us ends r in
    (word-front text us s.0 s.1 s.2, rw (word-behind text us s.0 s.1 s.2) s.3)

neither : (w a b : Bool) → a ≡ false → b ≡ false → (w && (a || b)) ≡ false
neither true a b h k = rw (h, k) refl
neither false a b h k = refl

-- neither of two
neither-first : (a b : Bool) → (a || b) ≡ false → a ≡ false
neither-first true b h = cc
neither-first false b h = refl

neither-second : (a b : Bool) → (a || b) ≡ false → b ≡ false
neither-second true b h = cc
neither-second false b h = h

pub argument-operations : {bs mid rest : List ℕ} → Passes word bs mid → IsAtToken mid → (front_byte 61 mid || front_byte 91 mid) ≡ false → Passes operations mid rest → Passes argument bs rest
argument-operations {bs} {mid} {rest} a at h b = argument-plain
    (λ text us ends r.
    let w = behind_word a text us ends r in (
      word-no_mark us bang w.0,
      neither (front is_word us) (second (is_mark equals) us) (second (is_mark open_bracket) us)
          (no_mark text mid (drop 1 us) 61 at (neither-first (front_byte 61 mid) (front_byte 91 mid) h) w.1)
          (no_mark text mid (drop 1 us) 91 at (neither-second (front_byte 61 mid) (front_byte 91 mid) h) w.1),
    ))
    (expression-passes (term-word a) b)

pub call-passes : {bs mid rest : List ℕ} → Passes word bs mid → Passes call_behind mid rest → Passes call bs rest
unfolding call
call-passes a b = placed-passes _ (headed-from (λ text. listed text close_paren (argument text)) open_paren close_paren (λ w xs. (w, xs)) a b)

pub part-number : {bs rest : List ℕ} → Passes number bs rest → Passes part bs rest
unfolding part
part-number a = record {
  lexes = a.lexes;
  spelled = λ text us ends r.
      let s = a.spelled text us ends r in
      let symbols = (symbol-number a).spelled text us ends r in
      (_, symbols.1, inr (rw (number-no_word us (number-front text us s.0 s.1 s.2)) refl, (symbols.0, symbols.1, symbols.2, (refl, refl))), symbols.3);
}

pub part-call : {bs mid rest : List ℕ} → Passes word bs mid → Passes call_behind mid rest → Passes part bs rest
unfolding part
part-call a b = record {
  lexes = Lexes-more a.lexes b.lexes;
  spelled = λ text us ends r.
      let s = (call-passes a b).spelled text us ends r in
      (_, s.1, inl (call-begins text us s.0 s.1 s.2, (s.0, s.1, s.2, (refl, refl))), s.3);
}

-- a word after which no parenthesis stands begins no call
pub word-no_call : {bs mid : List ℕ} → Passes word bs mid → IsAtToken mid → front_byte 40 mid ≡ false → (text : List ℕ) (us : List Token) → Ends text bs → ReadsEnd text bs us → begins_call us ≡ false
word-no_call {bs} {mid} a at h text us ends r =
    let w = behind_word a text us ends r in
    not_both (front is_word us) (second (is_mark open_paren) us) (no_mark text mid (drop 1 us) 40 at h w.1)

pub part-word : {bs rest : List ℕ} → Passes word bs rest → IsAtToken rest → front_byte 40 rest ≡ false → Passes part bs rest
unfolding part
part-word a at h = record {
  lexes = a.lexes;
  spelled = λ text us ends r.
      let s = (symbol-word a).spelled text us ends r in
      (_, s.1, inr (word-no_call a at h text us ends r, (s.0, s.1, s.2, (refl, refl))), s.3);
}

pub braces-passes : {bs mid rest : List ℕ} → Passes (λ text. mark text open_brace) bs mid → Passes (λ text. ended text close_brace (listed text close_brace (part text))) mid rest → Passes braces bs rest
unfolding braces
braces-passes o l = placed-passes _ (after-passes o l)

pub element-braces : {bs rest : List ℕ} → Passes braces bs rest → Passes element bs rest
unfolding element
element-braces a = record {
  lexes = a.lexes;
  spelled = λ text us ends r. let s = a.spelled text us ends r in (_, s.1, inl (braces-front text us s.0 s.1 s.2, (s.0, s.1, s.2, (refl, refl))), s.3);
}

-- where what closes may go on, no mark stands
unbraced : (byte : ℕ) (us : List Token) → before_mark byte us ≡ true → front (is_mark byte) us ≡ false
unbraced byte [] h = refl
unbraced byte (t ∷ ts) h = by (is_mark byte t) h
  where
    by : (b : Bool) → not b ≡ true → b ≡ false
    by true e = cc
    by false e = refl

call-word : (text : List ℕ) (us : List Token) (c : Call) (ms : List Token) → (call text).spells us c ms → front is_word us ≡ true
unfolding call
call-word text us c ms s = word-front text us s.2.0.0 s.2.0.1 s.2.0.2

-- what a part of braces is, is a level too
part-element : (text : List ℕ) (us : List Token) (x : BracePart) (ts : List Token) → (part text).spells us x ts → (y : Element) × (element text).spells us y ts
unfolding part element
part-element text us x ts (inl s) = (_, inr (word-no_mark us open_brace (call-word text us s.1.0 s.1.1 s.1.2), inl (s.0, (s.1.0, s.1.1, s.1.2, (refl, s.1.3.1)))))
part-element text us x ts (inr s) = (_, inr (unbraced open_brace us (symbol-before text open_brace us s.1.0 s.1.1 s.1.2), inr (s.0, (s.1.0, s.1.1, s.1.2, (refl, s.1.3.1)))))

pub element-part : {bs rest : List ℕ} → Passes part bs rest → Passes element bs rest
element-part a = record {
  lexes = a.lexes;
  spelled = λ text us ends r.
      let s = a.spelled text us ends r in
      let e = part-element text us s.0 s.1 s.2 in
      (e.0, s.1, e.1, s.3);
}

pub list-passes : {bs mid rest : List ℕ} → Passes (λ text. mark text open_bracket) bs mid → Passes (λ text. ended text close_bracket (listed text close_bracket (element text))) mid rest → Passes list bs rest
unfolding list
list-passes o l = placed-passes _ (after-passes o l)

pub value-list : {bs rest : List ℕ} → Passes list bs rest → Passes value bs rest
unfolding value
value-list a = record {
  lexes = a.lexes;
  spelled = λ text us ends r. let s = a.spelled text us ends r in (_, s.1, inl (list-front text us s.0 s.1 s.2, (s.0, s.1, s.2, (refl, refl))), s.3);
}

pub value-call : {bs mid rest : List ℕ} → Passes word bs mid → Passes call_behind mid rest → Passes value bs rest
unfolding value
value-call a b = record {
  lexes = Lexes-more a.lexes b.lexes;
  spelled = λ text us ends r.
      let w = behind_word a text us ends r in
      let s = (call-passes a b).spelled text us ends r in
      (_, s.1, inr (word-no_mark us open_bracket w.0, inl (call-begins text us s.0 s.1 s.2, (s.0, s.1, s.2, (refl, refl)))), s.3);
}

value-plain : {bs rest : List ℕ} → ((text : List ℕ) (us : List Token) → Ends text bs → ReadsEnd text bs us → (front (is_mark open_bracket) us ≡ false) × (begins_call us ≡ false)) → Passes expression bs rest → Passes value bs rest
unfolding value
value-plain plain a = record {
  lexes = a.lexes;
  spelled = λ text us ends r.
      let s = a.spelled text us ends r in
      let never = plain text us ends r in
      (_, s.1, inr (never.0, inr (never.1, (s.0, s.1, s.2, (refl, refl)))), s.3);
}

pub value-expression : {bs rest : List ℕ} → IsAtToken bs → front_byte 91 bs ≡ false → IsNoWord bs → Passes expression bs rest → Passes value bs rest
value-expression {bs} at h never a = value-plain (λ text us ends r. (no_mark text bs us 91 at h r, rw (no_word text bs us at never r) refl)) a

pub value-operations : {bs mid rest : List ℕ} → Passes word bs mid → IsAtToken mid → front_byte 40 mid ≡ false → Passes operations mid rest → Passes value bs rest
value-operations a at h b = value-plain (λ text us ends r. (word-no_mark us open_bracket (behind_word a text us ends r).0, word-no_call a at h text us ends r)) (expression-passes (term-word a) b)
