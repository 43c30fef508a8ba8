-- A production looks at most two tokens beyond its value: it spells the same value before any tokens that begin with the same two.
use Rattle.std.proofs.Common.{ℕ, suc, ◌-◌, Bool, List, [], ◌∷◌, ◌++◌, drop, length, ◌≡◌, inl, inr, sym, ◌∙◌, ap, subst, refl, append_assoc, arith, length-append}
use Rattle.std.proofs.lemmas.List.{append_cancel_right}
use Rattle.kx_lex.specs.declared.token.Span.{Span}
use Rattle.kx_lex.specs.declared.token.Token.{Token}
use Rattle.kx_lex.specs.Production as productions
use Rattle.kx_lex.specs.Production.{Production, at_end, either, front_span, give, many, noted, one, settle, span_between}
use Rattle.kx_lex.specs.Spelling.{many_front}
use Rattle.kx_lex.specs.Stops.{IsBehind}

-- tokens that begin with the same two, or are the same where there are fewer
pub data SameFront : List Token → List Token → Type 0 where
  none : SameFront [] []
  only : {t : Token} → SameFront (t ∷ []) (t ∷ [])
  both : {t u : Token} {ts us : List Token} → SameFront (t ∷ u ∷ ts) (t ∷ u ∷ us)

pub SameFront-before : (before : List Token) {rest other : List Token} → SameFront rest other → SameFront (before ++ rest) (before ++ other)
SameFront-before [] h = h
SameFront-before (b ∷ []) none = only
SameFront-before (b ∷ []) only = both
SameFront-before (b ∷ []) both = both
SameFront-before (b ∷ c ∷ bs) h = both

-- a test looks at two tokens at most
abbrev pub IsNear : (List Token → Bool) → Type 0
IsNear test = (t u : Token) (ts us : List Token) → test (t ∷ u ∷ ts) ≡ test (t ∷ u ∷ us)

pub near-same : (test : List Token → Bool) → IsNear test → {rest other : List Token} → SameFront rest other → test rest ≡ test other
near-same test near none = refl
near-same test near only = refl
near-same test near (both {t} {u} {ts} {us}) = near t u ts us

-- what is noted looks no further than two tokens beyond the value
abbrev pub NotesNear : {B : Type 0} → (List Token → List Token → B) → Type 0
NotesNear note = (before rest other : List Token) → SameFront rest other → note (before ++ rest) rest ≡ note (before ++ other) other

front-near : {rest other : List Token} → SameFront rest other → front_span rest ≡ front_span other
front-near none = refl
front-near only = refl
front-near both = refl

pub front_span-near : NotesNear (λ ts rest. front_span ts)
front_span-near before rest other h = front-near (SameFront-before before h)

-- the last token before the rest
last_span : (before rest : List Token) → front_span (drop (length (before ++ rest) - length rest - 1) (before ++ rest)) ≡ front_span (drop (length before - 1) (before ++ rest))
last_span before rest = ap (λ (n : ℕ). front_span (drop (n - 1) (before ++ rest))) (omega (arith, length-append before rest))

last-near : (before : List Token) {rest other : List Token} → SameFront rest other → front_span (drop (length before - 1) (before ++ rest)) ≡ front_span (drop (length before - 1) (before ++ other))
last-near [] h = front-near h
last-near (b ∷ []) h = refl
last-near (b ∷ c ∷ bs) {rest} {other} h =
    let one : length (b ∷ c ∷ bs) - 1 ≡ suc (length (c ∷ bs) - 1) = omega arith in
    let at : List Token → Span = λ ts. front_span (drop (length (b ∷ c ∷ bs) - 1) (b ∷ c ∷ (bs ++ ts))) in
    let moved : (ts : List Token) → at ts ≡ front_span (drop (length (c ∷ bs) - 1) (c ∷ (bs ++ ts))) = λ ts. ap (λ (n : ℕ). front_span (drop n (b ∷ c ∷ (bs ++ ts)))) one in
    moved rest ∙ last-near (c ∷ bs) h ∙ sym (moved other)

pub span_between-near : NotesNear span_between
span_between-near before rest other h =
    let start = front-near (SameFront-before before h) in
    let stop = last_span before rest ∙ last-near before h ∙ sym (last_span before other) in
    rw (start, stop) refl

-- the same value is spelled before other tokens that begin with the same two
abbrev pub Nearby : {A : Type 0} → Production A → Type 0
Nearby {A} p = (before rest other : List Token) (x : A) → SameFront rest other → p.spells (before ++ rest) x rest → p.spells (before ++ other) x other

-- what takes nothing takes nothing before other tokens
nothing-before : (before rest : List Token) → before ++ rest ≡ rest → before ≡ []
nothing-before before rest e = append_cancel_right before [] rest e

pub nothing-near : (before rest other : List Token) → before ++ rest ≡ rest → before ++ other ≡ other
nothing-near before rest other e = ap (λ (ts : List Token). ts ++ other) (nothing-before before rest e)

pub one-near : (text : List ℕ) (test : Token → Bool) → Nearby (one text test)
one-near text test before rest other t h s =
    let same = append_cancel_right before (t ∷ []) rest s.0 in
    (ap (λ (ts : List Token). ts ++ other) same, s.1)

pub at_end-near : Nearby at_end
at_end-near before rest other x none s = s
at_end-near before rest other x only s = cc
at_end-near before rest other x both s = cc

-- tokens that two values are spelled by, one after the other
seam : {before mid rest : List Token} (first : IsBehind (before ++ rest) mid) (second : IsBehind mid rest) → before ≡ first.before ++ second.before
seam {before} {mid} {rest} first second = append_cancel_right before (first.before ++ second.before) rest (rw append_assoc (first.tokens ∙ ap (λ (ts : List Token). first.before ++ ts) second.tokens))

joined : (before : List Token) {mid rest : List Token} (first : IsBehind (before ++ rest) mid) (second : IsBehind mid rest) (other : List Token) → before ++ other ≡ first.before ++ (second.before ++ other)
joined before first second other = ap (λ (ts : List Token). ts ++ other) (seam first second) ∙ append_assoc first.before second.before other

-- the first of the two, before other tokens after the second
first-near : {A : Type 0} (p : Production A) {x : A} (before : List Token) {mid rest other : List Token} (first : IsBehind (before ++ rest) mid) (second : IsBehind mid rest) → Nearby p → SameFront rest other → p.spells (before ++ rest) x mid → p.spells (before ++ other) x (second.before ++ other)
first-near {A} p {x} before {mid} {rest} {other} first second near_p h s =
    let here = subst (λ (ts : List Token). p.spells (first.before ++ ts) x ts) second.tokens (subst (λ (ts : List Token). p.spells ts x mid) first.tokens s) in
    let there = near_p first.before (second.before ++ rest) (second.before ++ other) x (SameFront-before second.before h) here in
    subst (λ (ts : List Token). p.spells ts x (second.before ++ other)) (sym (joined before first second other)) there

-- a value, and what follows from it
pub then-near : {A B : Type 0} (p : Production A) (f : A → Production B) → ((ts : List Token) (x : A) (rest : List Token) → p.spells ts x rest → IsBehind ts rest) → Nearby p → ((x : A) (ts : List Token) (y : B) (rest : List Token) → (f x).spells ts y rest → IsBehind ts rest) → ((x : A) → Nearby (f x)) → Nearby (productions.◌>>=◌ p f)
then-near {A} {B} p f behind_p near_p behind_f near_f before rest other y h s =
    let first = behind_p (before ++ rest) s.0 s.1 s.2 in
    let second = behind_f s.0 s.1 y rest s.3 in
    let here = subst (λ (ts : List Token). (f s.0).spells ts y rest) second.tokens s.3 in
    (s.0, second.before ++ other, first-near p before first second near_p h s.2, near_f s.0 second.before rest other y h here)

-- the one or the other
pub either-near : {A : Type 0} (test : List Token → Bool) (p q : Production A) → IsNear test → Nearby p → Nearby q → Nearby (either test p q)
either-near test p q near near_p near_q before rest other x h (inl s) = inl (sym (near-same test near (SameFront-before before h)) ∙ s.0, near_p before rest other x h s.1)
either-near test p q near near_p near_q before rest other x h (inr s) = inr (sym (near-same test near (SameFront-before before h)) ∙ s.0, near_q before rest other x h s.1)

-- values one after another
module _ {A : Type 0} (test : List Token → Bool) (p : Production A) (near : IsNear test) (behind_p : (ts : List Token) (x : A) (rest : List Token) → p.spells ts x rest → IsBehind ts rest) (near_p : Nearby p) (behind_front : (xs : List A) (ts rest : List Token) → many_front test p.spells xs ts rest → IsBehind ts rest) where
  fronts-near : (xs : List A) (before rest other : List Token) → SameFront rest other → many_front test p.spells xs (before ++ rest) rest → many_front test p.spells xs (before ++ other) other
  fronts-near [] before rest other h s = nothing-near before rest other s
  fronts-near (x ∷ xs) before rest other h s =
      let first = behind_p (before ++ rest) x s.1 s.2 in
      let second = behind_front xs s.1 rest s.3 in
      let here = subst (λ (ts : List Token). many_front test p.spells xs ts rest) second.tokens s.3 in
      (sym (near-same test near (SameFront-before before h)) ∙ s.0, second.before ++ other, first-near p before first second near_p h s.2, fronts-near xs second.before rest other h here)

  pub many-near : Nearby (many test p)
  many-near before rest other xs h s = (fronts-near xs before rest other h s.0, sym (near-same test near h) ∙ s.1)

-- with what is noted
pub noted-near : {A B : Type 0} (p : Production A) (note : List Token → List Token → B) → NotesNear note → Nearby p → Nearby (noted note p)
noted-near p note notes near_p before rest other y h s = (near_p before rest other y.0 h s.0, sym (notes before rest other h) ∙ s.1)
