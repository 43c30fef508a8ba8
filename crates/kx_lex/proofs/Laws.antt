-- What a reading tells of the readings that it is made of.
use Rattle.std.proofs.Common.{◌+◌, ◌≤◌, List, ◌∷◌, length, ◌≡◌, ◌⊎◌, Result, Ok, Err, refl, inl, inr, arith, subst, ap}
use Rattle.kx_lex.specs.declared.token.Token.{Token}
use Rattle.kx_lex.specs.declared.fault.Fault.{Fault}
use Rattle.kx_lex.specs.Parsing.{Read, done, then_read, settle_read}

pub done-same : {A : Type 0} {x y : A} {r s : List Token} → done x r ≡ done y s → (x ≡ y) × (r ≡ s)
done-same {A} {x} {y} {r} {s} e =
    let value : Read A → A = elim [ Ok p ↦ p.0 | Err f ↦ x ] in
    let left : Read A → List Token = elim [ Ok p ↦ p.1 | Err f ↦ r ] in
    (ap value e, ap left e)

pub same-done : {A : Type 0} {x y : A} {r s : List Token} → x ≡ y → r ≡ s → done x r ≡ done y s
same-done e f = cc

pub same-uses : {r s : List Token} → r ≡ s → length s + 0 ≤ length r
same-uses {r} {s} e = let same : length r ≡ length s = ap (λ (t : List Token). length t) e in omega arith

-- a reading that went on read its first part
pub then-first : {A B : Type 0} (w : Read A) (k : A → List Token → Read B) (y : B) (rest : List Token) → then_read w k ≡ done y rest → (x : A) × (mid : List Token) × (w ≡ done x mid) × (k x mid ≡ done y rest)
then-first (Ok p) k y rest e = (p.0, p.1, refl, e)
then-first (Err f) k y rest e = cc

-- a reading that failed did so in its first part, or after it
pub then-failed : {A B : Type 0} (w : Read A) (k : A → List Token → Read B) (f : Fault) → then_read w k ≡ Err f → (w ≡ Err f) ⊎ ((x : A) × (mid : List Token) × (w ≡ done x mid) × (k x mid ≡ Err f))
then-failed (Ok p) k f e = inr (p.0, p.1, refl, e)
then-failed {A} (Err g) k f e = inl (let same : g ≡ f = cc in ap (λ (h : Fault). let w : Read A = Err h in w) same)

-- a value and those after it
pub prepend-done : {A : Type 0} (x : A) (w : Read (List A)) (ys : List A) (rest : List Token) → then_read w (λ xs. done (x ∷ xs)) ≡ done ys rest → (xs : List A) × (w ≡ done xs rest) × (x ∷ xs ≡ ys)
prepend-done x (Ok p) ys rest e = let same : (x ∷ p.0 ≡ ys) × (p.1 ≡ rest) = done-same e in (p.0, ap (λ (r : List Token). done p.0 r) same.1, same.0)
prepend-done x (Err f) ys rest e = cc

pub prepend-failed : {A : Type 0} (x : A) (w : Read (List A)) (f : Fault) → then_read w (λ xs. done (x ∷ xs)) ≡ Err f → w ≡ Err f
prepend-failed x (Ok p) f e = cc
prepend-failed {A} x (Err g) f e = let same : g ≡ f = cc in ap (λ (h : Fault). let w : Read (List A) = Err h in w) same

-- what a token stands for
pub settle-takes : {A : Type 0} (outcome : Result A Fault) (ts : List Token) (x : A) (rest : List Token) → settle_read outcome ts ≡ done x rest → (outcome ≡ Ok x) × (ts ≡ rest)
settle-takes (Ok y) ts x rest w = let same = done-same w in (ap (λ (z : _). let r : Result _ Fault = Ok z in r) same.0, same.1)
settle-takes (Err f) ts x rest w = cc

pub settle-again : {A : Type 0} (outcome : Result A Fault) (ts : List Token) (x : A) (rest : List Token) → (outcome ≡ Ok x) × (ts ≡ rest) → settle_read outcome ts ≡ done x rest
settle-again outcome ts x rest s = rw (s.0, s.1) refl

pub settle-fails : {A : Type 0} (outcome : Result A Fault) (ts : List Token) (e : Fault) → settle_read outcome ts ≡ Err e → outcome ≡ Err e
settle-fails (Ok y) ts e w = cc
settle-fails {A} (Err f) ts e w = let same : f ≡ e = cc in ap (λ (h : Fault). let r : Result A Fault = Err h in r) same

-- a value with what is noted
pub noted-done : {A B : Type 0} (note : List Token → List Token → B) (ts : List Token) (w : Read A) (y : A × B) (rest : List Token) → then_read w (λ x rest. done (x, note ts rest) rest) ≡ done y rest → (w ≡ done y.0 rest) × (note ts rest ≡ y.1)
noted-done {A} {B} note ts (Ok p) y rest e = go p.1 (done-same e).1 (done-same e).0
  where
    go : (mid : List Token) → mid ≡ rest → (p.0, note ts mid) ≡ y → (done p.0 mid ≡ done y.0 rest) × (note ts rest ≡ y.1)
    go mid r s = (same-done (ap (λ (z : A × B). z.0) s) r, subst (λ (m : List Token). note ts m ≡ y.1) r (ap (λ (z : A × B). z.1) s))
noted-done note ts (Err f) y rest e = cc

pub noted-failed : {A B : Type 0} (note : List Token → List Token → B) (ts : List Token) (w : Read A) (f : Fault) → then_read {B = A × B} w (λ x rest. done (x, note ts rest) rest) ≡ Err f → w ≡ Err f
noted-failed note ts (Ok p) f e = cc
noted-failed {A} note ts (Err g) f e = let same : g ≡ f = cc in ap (λ (h : Fault). let w : Read A = Err h in w) same
