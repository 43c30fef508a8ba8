-- What is passed over by its bytes, by the forms of productions.
use Rattle.std.specs.Prelude.{IfSome}
use Rattle.std.proofs.Common.{◌≡◌, ◌<◌, ℕ, Bool, true, false, ◌&&◌, List, [], ◌∷◌, Option, None, Some, length, refl, arith, inl, inr}
use Rattle.kx_lex.specs.Kinds.{before_mark, front, is_mark}
use Rattle.kx_lex.specs.Passing.{Ends, ReadsEnd, Passes, IsAtToken, front_byte}
use Rattle.kx_lex.specs.Production.{Production, many, span_between}
use Rattle.kx_lex.specs.Tokens.{comma, equals, mark}
use Rattle.kx_lex.specs.declared.token.Span.{Span}
use Rattle.kx_lex.specs.declared.token.Token.{Token}
use Rattle.kx_lex.proofs.Lawful.{Admits}
use Rattle.kx_lex.proofs.PassedOver.{Ends-more, Lexes-more, Lexes-self, no_mark, some_token}
use Rattle.kx_lex.proofs.TokenLaws.{mark-front}
use Rattle.kx_tree.specs.Forms.{after, assigned, between, both, ended, headed, listed, made, made2, made3, placed, sequence}
use Rattle.kx_tree.specs.Passing.{more}

pub some-map : {X : Type 0} {P Q : X → Type 0} (o : Option X) → ((x : X) → P x → Q x) → IfSome o P → IfSome o Q
some-map None f h = h
some-map (Some x) f h = f x h

-- what one part spells, and the next
pub two : {A B : Type 0} {p : List ℕ → Production A} {q : List ℕ → Production B} {bs mid rest : List ℕ} → Passes p bs mid → Passes q mid rest
    → (text : List ℕ) (us : List Token) → Ends text bs → ReadsEnd text bs us
    → (x : A) × (ms : List Token) × (p text).spells us x ms × (y : B) × (ts : List Token) × (q text).spells ms y ts × ReadsEnd text rest ts
two a b text us ends r =
    let s = a.spelled text us ends r in
    let t = b.spelled text s.1 (Ends-more ends a.lexes.ends) s.3 in
    (s.0, s.1, s.2, t.0, t.1, t.2, t.3)

pub made-passes : {A B : Type 0} {p : List ℕ → Production A} {bs rest : List ℕ} (f : A → B) → Passes p bs rest → Passes (λ text. made f (p text)) bs rest
made-passes f a = record {
  lexes = a.lexes;
  spelled = λ text us ends r. let s = a.spelled text us ends r in (f s.0, s.1, (s.0, s.1, s.2, (refl, refl)), s.3);
}

pub placed-passes : {A B : Type 0} {p : List ℕ → Production A} {bs rest : List ℕ} (f : A → Span → B) → Passes p bs rest → Passes (λ text. placed f (p text)) bs rest
placed-passes f a = record {
  lexes = a.lexes;
  spelled = λ text us ends r. let s = a.spelled text us ends r in (f s.0 (span_between us s.1), s.1, ((s.0, span_between us s.1), s.1, (s.2, refl), (refl, refl)), s.3);
}

pub made2-passes : {A B C : Type 0} {p : List ℕ → Production A} {q : List ℕ → Production B} {bs mid rest : List ℕ} (f : A → B → C) → Passes p bs mid → Passes q mid rest → Passes (λ text. made2 f (p text) (q text)) bs rest
made2-passes f a b = record {
  lexes = Lexes-more a.lexes b.lexes;
  spelled = λ text us ends r. let s = two a b text us ends r in (f s.0 s.3, s.4, (s.0, s.1, s.2, (s.3, s.4, s.5, (refl, refl))), s.6);
}

pub both-passes : {A B : Type 0} {p : List ℕ → Production A} {q : List ℕ → Production B} {bs mid rest : List ℕ} → Passes p bs mid → Passes q mid rest → Passes (λ text. both (p text) (q text)) bs rest
both-passes a b = made2-passes (λ x y. (x, y)) a b

pub made3-passes : {A B C D : Type 0} {p : List ℕ → Production A} {q : List ℕ → Production B} {o : List ℕ → Production C} {bs m1 m2 rest : List ℕ} (f : A → B → C → D) → Passes p bs m1 → Passes q m1 m2 → Passes o m2 rest → Passes (λ text. made3 f (p text) (q text) (o text)) bs rest
made3-passes f a b c = record {
  lexes = Lexes-more a.lexes (Lexes-more b.lexes c.lexes);
  spelled = λ text us ends r.
      let s = a.spelled text us ends r in
      let t = two b c text s.1 (Ends-more ends a.lexes.ends) s.3 in
      (f s.0 t.0 t.3, t.4, (s.0, s.1, s.2, (t.0, t.1, t.2, (t.3, t.4, t.5, (refl, refl)))), t.6);
}

pub after-passes : {A B : Type 0} {p : List ℕ → Production A} {q : List ℕ → Production B} {bs mid rest : List ℕ} → Passes p bs mid → Passes q mid rest → Passes (λ text. after (p text) (q text)) bs rest
after-passes a b = record {
  lexes = Lexes-more a.lexes b.lexes;
  spelled = λ text us ends r. let s = two a b text us ends r in (s.3, s.4, (s.0, s.1, s.2, s.5), s.6);
}

pub ended-passes : {A : Type 0} {p : List ℕ → Production A} {bs mid rest : List ℕ} (right : ℕ) → Passes p bs mid → Passes (λ text. mark text right) mid rest → Passes (λ text. ended text right (p text)) bs rest
ended-passes right a b = record {
  lexes = Lexes-more a.lexes b.lexes;
  spelled = λ text us ends r. let s = two a b text us ends r in (s.0, s.4, (s.0, s.1, s.2, (s.3, s.4, s.5, (refl, refl))), s.6);
}

pub assigned-passes : {A B C : Type 0} {p : List ℕ → Production A} {q : List ℕ → Production B} {bs m1 m2 rest : List ℕ} (f : A → B → C) → Passes p bs m1 → Passes (λ text. mark text equals) m1 m2 → Passes q m2 rest → Passes (λ text. assigned text f (p text) (q text)) bs rest
assigned-passes f a e b = record {
  lexes = Lexes-more a.lexes (Lexes-more e.lexes b.lexes);
  spelled = λ text us ends r.
      let s = a.spelled text us ends r in
      let t = two e b text s.1 (Ends-more ends a.lexes.ends) s.3 in
      (f s.0 t.3, t.4, (s.0, s.1, s.2, (t.0, t.1, t.2, (t.3, t.4, t.5, (refl, refl)))), t.6);
}

-- one, and another between marks, with the mark that closes it passed together with it
pub headed-passes : {A B C : Type 0} {p : List ℕ → Production A} (q : List ℕ → Production B) {bs m1 m2 rest : List ℕ} (left right : ℕ) (f : A → B → C) → Passes p bs m1 → Passes (λ text. mark text left) m1 m2 → Passes (λ text. ended text right (q text)) m2 rest → Passes (λ text. headed text left right f (p text) (q text)) bs rest
headed-passes q left right f a l b = record {
  lexes = Lexes-more a.lexes (Lexes-more l.lexes b.lexes);
  spelled = λ text us ends r.
      let s = a.spelled text us ends r in
      let t = two l b text s.1 (Ends-more ends a.lexes.ends) s.3 in
      (f s.0 t.5.0, t.4, (s.0, s.1, s.2, (t.0, t.1, t.2, (t.5.0, t.5.1, t.5.2, (t.5.3.0, t.5.3.1, t.5.3.2, (refl, t.5.3.3.1))))), t.6);
}

-- the same where what stands between the marks is passed with both
pub headed-from : {A B C : Type 0} {p : List ℕ → Production A} (q : List ℕ → Production B) {bs mid rest : List ℕ} (left right : ℕ) (f : A → B → C) → Passes p bs mid → Passes (λ text. between text left right (q text)) mid rest → Passes (λ text. headed text left right f (p text) (q text)) bs rest
headed-from q left right f a b = record {
  lexes = Lexes-more a.lexes b.lexes;
  spelled = λ text us ends r.
      let s = two a b text us ends r in
      (f s.0 s.5.3.0, s.4, (s.0, s.1, s.2, (s.5.0, s.5.1, s.5.2, (s.5.3.0, s.5.3.1, s.5.3.2, (s.5.3.3.0, s.5.3.3.1, s.5.3.3.2, (refl, s.5.3.3.3.1))))), s.6);
}

-- none more
pub none-passes : {A : Type 0} (p : List ℕ → Production A) (bs : List ℕ) (test : List Token → Bool) → ((text : List ℕ) (ts : List Token) → Ends text bs → ReadsEnd text bs ts → test ts ≡ false) → Passes (λ text. many test (p text)) bs bs
none-passes p bs test stops = record {
  lexes = Lexes-self bs;
  spelled = λ text us ends r. ([], us, (refl, stops text us ends r), r);
}

-- one more
pub more-passes : {A : Type 0} {p : List ℕ → Production A} {bs mid rest : List ℕ} (test : List Token → Bool) → ((text : List ℕ) → Admits test (p text)) → Passes p bs mid → Passes (λ text. many test (p text)) mid rest → Passes (λ text. many test (p text)) bs rest
more-passes test admits a b = record {
  lexes = Lexes-more a.lexes b.lexes;
  spelled = λ text us ends r.
      let s = two a b text us ends r in
      (s.0 ∷ s.3, s.4, ((admits text us s.0 s.1 s.2, s.1, s.2, s.5.0), s.5.1), s.6);
}

-- where a mark stands, what goes on before it ends
pub closing : (close : ℕ) (us : List Token) → front (is_mark close) us ≡ true → before_mark close us ≡ false
closing close [] h = cc
closing close (t ∷ ts) h = rw h refl

-- none, and the mark after them
pub none-ended : {A : Type 0} (p : List ℕ → Production A) {bs rest : List ℕ} (close : ℕ) → Passes (λ text. mark text close) bs rest → Passes (λ text. ended text close (many (before_mark close) (p text))) bs rest
none-ended p close a = record {
  lexes = a.lexes;
  spelled = λ text us ends r.
      let s = a.spelled text us ends r in
      ([], s.1, ([], us, (refl, closing close us (mark-front text close us s.0 s.1 s.2)), (s.0, s.1, s.2, (refl, refl))), s.3);
}

-- one more, and the mark after them
pub more-ended : {A : Type 0} {p : List ℕ → Production A} {bs mid rest : List ℕ} (close : ℕ) → ((text : List ℕ) → Admits (before_mark close) (p text)) → Passes p bs mid → Passes (λ text. ended text close (many (before_mark close) (p text))) mid rest → Passes (λ text. ended text close (many (before_mark close) (p text))) bs rest
more-ended close admits a b = record {
  lexes = Lexes-more a.lexes b.lexes;
  spelled = λ text us ends r.
      let s = two a b text us ends r in
      (s.0 ∷ s.5.0, s.4, (s.0 ∷ s.5.0, s.5.1, ((admits text us s.0 s.1 s.2, s.1, s.2, s.5.2.0), s.5.2.1), (s.5.3.0, s.5.3.1, s.5.3.2, (refl, s.5.3.3.1))), s.6);
}

-- more after commas
pub more-none : {A : Type 0} (p : List ℕ → Production A) (bs : List ℕ) → IsAtToken bs → front_byte 44 bs ≡ false → Passes (more p) bs bs
more-none p bs at h = none-passes (λ text. after (mark text comma) (p text)) bs (front (is_mark comma)) (λ text ts ends r. no_mark text bs ts 44 at h r)

pub more-one : {A : Type 0} {p : List ℕ → Production A} {bs m1 m2 rest : List ℕ} → Passes (λ text. mark text comma) bs m1 → Passes p m1 m2 → Passes (more p) m2 rest → Passes (more p) bs rest
more-one a b c = more-passes (front (is_mark comma)) (λ text us x ts s. mark-front text comma us s.0 s.1 s.2) (after-passes a b) c

pub sequence-passes : {A : Type 0} {p : List ℕ → Production A} {bs mid rest : List ℕ} → Passes p bs mid → Passes (more p) mid rest → Passes (λ text. sequence text (p text)) bs rest
sequence-passes a b = made2-passes (λ x xs. x ∷ xs) a b

-- a list of none
pub listed-none : {A : Type 0} (p : List ℕ → Production A) {bs rest : List ℕ} (close : ℕ) → Passes (λ text. mark text close) bs rest → Passes (λ text. ended text close (listed text close (p text))) bs rest
listed-none p close a = record {
  lexes = a.lexes;
  spelled = λ text us ends r.
      let s = a.spelled text us ends r in
      ([], s.1, ([], us, inr (closing close us (mark-front text close us s.0 s.1 s.2), (refl, refl)), (s.0, s.1, s.2, (refl, refl))), s.3);
}

-- another token than the mark stands first
before : (close : ℕ) (us : List Token) → (us ≡ [] → ⊥) → front (is_mark close) us ≡ false → before_mark close us ≡ true
before close [] some h = absurd (some refl)
before close (t ∷ ts) some h = rw h refl

pub listed-some : {A : Type 0} (p : List ℕ → Production A) {bs mid rest : List ℕ} (close : ℕ) → IsAtToken bs → front_byte close bs ≡ false → length mid < length bs → Passes (λ text. sequence text (p text)) bs mid → Passes (λ text. mark text close) mid rest → Passes (λ text. ended text close (listed text close (p text))) bs rest
listed-some p {bs} {mid} close at other shorter a b = record {
  lexes = Lexes-more a.lexes b.lexes;
  spelled = λ text us ends r.
      let s = two a b text us ends r in
      let here = before close us (some_token text bs us at (omega arith) r) (no_mark text bs us close at other r) in
      (s.0, s.4, (s.0, s.1, inl (here, s.2), (s.3, s.4, s.5, (refl, refl))), s.6);
}

pub not_both : (a b : Bool) → b ≡ false → (a && b) ≡ false
not_both true b h = h
not_both false b h = refl
