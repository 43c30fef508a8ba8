-- What is spelled at each way to build a production.
use Rattle.std.proofs.Common.{◌≡◌, ℕ, Bool, true, false, List, [], ◌∷◌, inl, inr, refl}
use Rattle.kx_lex.specs.Kinds.{front, is_mark, is_keyword}
use Rattle.kx_lex.specs.Production.{Production, either, fronted, span_between, front_span}
use Rattle.kx_lex.specs.Tokens.{mark, keyword, comma, equals}
use Rattle.kx_lex.specs.declared.keyword.Keyword.{Keyword}
use Rattle.kx_lex.specs.declared.token.Span.{Span}
use Rattle.kx_lex.specs.declared.token.Token.{Token}
use Rattle.kx_tree.specs.Forms.{made, placed, both, made2, made3, after, ended, assigned, headed, sequence}
use Rattle.roundtrip_tree.specs.Shows.{IsSpelled}

pub mark_spelled : (text : List ℕ) (byte : ℕ) (t : Token) (rest : List Token) → is_mark byte t ≡ true → IsSpelled (mark text byte) (t ∷ rest) t rest
unfolding mark
mark_spelled text byte t rest h = record { spelled = (refl, h) }

pub keyword_spelled : (text : List ℕ) (wanted : Keyword) (t : Token) (rest : List Token) → is_keyword wanted t ≡ true → IsSpelled (keyword text wanted) (t ∷ rest) t rest
unfolding keyword
keyword_spelled text wanted t rest h = record { spelled = (refl, h) }

module _ {A B : Type 0} {p : Production A} {ts : List Token} {x : A} {rest : List Token} where
  pub made_spelled : (f : A → B) → IsSpelled p ts x rest → IsSpelled (made f p) ts (f x) rest
  made_spelled f s = record { spelled = (x, rest, s.spelled, (refl, refl)) }

  pub placed_spelled : (f : A → Span → B) → IsSpelled p ts x rest → IsSpelled (placed f p) ts (f x (span_between ts rest)) rest
  placed_spelled f s = record { spelled = ((x, span_between ts rest), rest, (s.spelled, refl), (refl, refl)) }

pub fronted_spelled : {A : Type 0} {p : Production A} {ts : List Token} {x : A} {rest : List Token} → IsSpelled p ts x rest → IsSpelled (fronted p) ts (x, front_span ts) rest
fronted_spelled s = record { spelled = (s.spelled, refl) }

module _ {A B : Type 0} {p : Production A} {q : Production B} {ts mid rest : List Token} {x : A} {y : B} where
  pub after_spelled : IsSpelled p ts x mid → IsSpelled q mid y rest → IsSpelled (after p q) ts y rest
  after_spelled s t = record { spelled = (x, mid, s.spelled, t.spelled) }

  pub both_spelled : IsSpelled p ts x mid → IsSpelled q mid y rest → IsSpelled (both p q) ts (x, y) rest
  both_spelled s t = record { spelled = (x, mid, s.spelled, (y, rest, t.spelled, (refl, refl))) }

  pub made2_spelled : {C : Type 0} (f : A → B → C) → IsSpelled p ts x mid → IsSpelled q mid y rest → IsSpelled (made2 f p q) ts (f x y) rest
  made2_spelled f s t = record { spelled = (x, mid, s.spelled, (y, rest, t.spelled, (refl, refl))) }

module _ {A : Type 0} {test : List Token → Bool} {p : Production A} (q : Production A) {ts : List Token} {x : A} {rest : List Token} where
  pub first_spelled : test ts ≡ true → IsSpelled p ts x rest → IsSpelled (either test p q) ts x rest
  first_spelled h s = record { spelled = inl (h, s.spelled) }

  -- where the first of them isn't begun
  pub second_spelled : test ts ≡ false → IsSpelled p ts x rest → IsSpelled (either test q p) ts x rest
  second_spelled h s = record { spelled = inr (h, s.spelled) }

-- what a mark ends
pub ended_spelled : {A : Type 0} (text : List ℕ) (right : ℕ) {p : Production A} {ts : List Token} {x : A} (close : Token) (rest : List Token) → IsSpelled p ts x (close ∷ rest) → is_mark right close ≡ true → IsSpelled (ended text right p) ts x rest
unfolding mark
ended_spelled text right {x = x} close rest s h = record { spelled = (x, close ∷ rest, s.spelled, (close, rest, (refl, h), (refl, refl))) }

pub assigned_spelled : {A B C : Type 0} (text : List ℕ) (f : A → B → C) {p : Production A} {q : Production B} {ts mid rest : List Token} {x : A} {y : B} (equal : Token) → IsSpelled p ts x (equal ∷ mid) → is_mark equals equal ≡ true → IsSpelled q mid y rest → IsSpelled (assigned text f p q) ts (f x y) rest
unfolding mark
assigned_spelled text f {mid = mid} {rest = rest} {x = x} {y = y} equal s h t = record { spelled = (x, equal ∷ mid, s.spelled, (equal, mid, (refl, h), (y, rest, t.spelled, (refl, refl)))) }

-- one, and another between two marks
pub headed_spelled : {A B C : Type 0} (text : List ℕ) (left right : ℕ) (f : A → B → C) {p : Production A} {q : Production B} {ts mid rest : List Token} {x : A} {y : B} (start close : Token) → IsSpelled p ts x (start ∷ mid) → is_mark left start ≡ true → IsSpelled q mid y (close ∷ rest) → is_mark right close ≡ true → IsSpelled (headed text left right f p q) ts (f x y) rest
unfolding mark
headed_spelled text left right f {mid = mid} {rest = rest} {x = x} {y = y} start close s h t k =
    record { spelled = (x, start ∷ mid, s.spelled, (start, mid, (refl, h), (y, close ∷ rest, t.spelled, (close, rest, (refl, k), (refl, refl))))) }

-- one with no other after it
pub single_spelled : {A : Type 0} (text : List ℕ) {p : Production A} {ts rest : List Token} {x : A} → IsSpelled p ts x rest → front (is_mark comma) rest ≡ false → IsSpelled (sequence text p) ts (x ∷ []) rest
single_spelled text {rest = rest} {x = x} s h = record { spelled = (x, rest, s.spelled, ([], rest, (refl, h), (refl, refl))) }

pub made3_spelled : {A B C D : Type 0} (f : A → B → C → D) {p : Production A} {q : Production B} {r : Production C} {ts mid more rest : List Token} {x : A} {y : B} {z : C} → IsSpelled p ts x mid → IsSpelled q mid y more → IsSpelled r more z rest → IsSpelled (made3 f p q r) ts (f x y z) rest
made3_spelled f {mid = mid} {more = more} {rest = rest} {x = x} {y = y} {z = z} s t u = record { spelled = (x, mid, s.spelled, (y, more, t.spelled, (z, rest, u.spelled, (refl, refl)))) }
