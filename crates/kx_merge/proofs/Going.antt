-- Loops over a list, and faults of parts: what is left of the list gives what is still to come.
use Rattle.std.proofs.Common.{◌≡◌, ℕ, ◌+◌, ◌<◌, zero, suc, List, [], ◌∷◌, ◌++◌, length, drop, get_or, Contains, Result, Ok, Err, IfErr, refl, sym, ap, ◌∙◌, subst, arith}
use Rattle.std.specs.List.{flat_map}
use Rattle.std.specs.Result.{IsErrAnd}
use Rattle.std.proofs.lemmas.List.{drop_more}
use Rattle.std.proofs.lemmas.List.Elements.{Contains-append_left, Contains-append_right}
use Rattle.kx_lex.specs.declared.fault.Fault.{Fault}
use Rattle.kx_lex.specs.declared.fault.Fault.TheVariants.{Memory}
use Rattle.kx_merge.specs.Reports.{Reports, ReportsOrRunsOut}

pub drop_next : {X : Type 0} (xs : List X) (i : ℕ) (x : X) → i < length xs → x ≡ get_or xs i x → drop i xs ≡ x ∷ drop (i + 1) xs
drop_next xs i x within h = drop_more xs i x within ∙ ap (λ y. y ∷ drop (i + 1) xs) (sym h)

pub read_again : {X : Type 0} (xs : List X) (i : ℕ) (d : X) → i < length xs → get_or xs i d ≡ get_or xs i (get_or xs i d)
read_again [] i d h = absurd (omega (arith, h))
read_again (x ∷ xs) zero d h = refl
read_again (x ∷ xs) (suc i) d h = read_again xs i d (omega (arith, h))

-- nothing came of what is after
pub none_goes : {X Y : Type 0} (f : X → List Y) (xs : List X) (i : ℕ) (x : X) → i < length xs → x ≡ get_or xs i x → f x ≡ [] → flat_map f xs ≡ flat_map f (drop i xs) → flat_map f xs ≡ flat_map f (drop (i + 1) xs)
none_goes f xs i x within is none left = left ∙ ap (flat_map f) (drop_next xs i x within is) ∙ ap (λ ys. ys ++ flat_map f (drop (i + 1) xs)) none

-- nothing came of what is after, and this comes of the next
pub none_blames : {X Y : Type 0} (f : X → List Y) (xs : List X) (i : ℕ) (x : X) (e : Y) → i < length xs → x ≡ get_or xs i x → flat_map f xs ≡ flat_map f (drop i xs) → Contains (f x) e → Contains (flat_map f xs) e
none_blames f xs i x e within is left has = subst (λ ys. Contains ys e) (sym (left ∙ ap (flat_map f) (drop_next xs i x within is))) (Contains-append_left (f x) (flat_map f (drop (i + 1) xs)) e has)

-- the same where it is what may come of each
pub any_blames : {X Y : Type 0} (f : X → List Y) (xs : List X) (i : ℕ) (x : X) (m e : Y) → i < length xs → x ≡ get_or xs i x → flat_map f xs ≡ flat_map f (drop i xs) → Contains (m ∷ f x) e → Contains (m ∷ flat_map f xs) e
any_blames f xs i x m e within is left has = subst (λ ys. Contains (m ∷ ys) e) (sym (left ∙ ap (flat_map f) (drop_next xs i x within is))) (Contains-append_left (m ∷ f x) (flat_map f (drop (i + 1) xs)) e has)

-- an Err that is answered for another reports the same fault
pub reported : {X : Type 0} (r : Result X Fault) (fs : List Fault) (e : Fault) → IsErrAnd r (λ y. y ≡ e) → Contains fs e → Reports r fs
reported (Ok x) fs e is has = absurd is
reported (Err y) fs e is has = (tt, subst (Contains fs) (sym is) has)

pub reported_or_out : {X : Type 0} (r : Result X Fault) (fs : List Fault) (e : Fault) → IsErrAnd r (λ y. y ≡ e) → Contains (Memory ∷ fs) e → ReportsOrRunsOut r fs
reported_or_out (Ok x) fs e is has = absurd is
reported_or_out (Err y) fs e is has = (tt, subst (Contains (Memory ∷ fs)) (sym is) has)

-- where there are none, it may have run out of memory
pub out_alone : {X : Type 0} (r : Result X Fault) (fs : List Fault) → fs ≡ [] → IfErr r (λ e. e ≡ Memory) → ReportsOrRunsOut r fs
out_alone (Ok x) fs none is = (none, tt)
out_alone (Err e) fs none is = (tt, (0, omega arith, sym is))

-- what is blamed is one of more
pub blamed : {F : Type 0} (m : F) (fs : List F) (e : F) → Contains fs e → Contains (m ∷ fs) e
blamed m fs e has = Contains-append_right (m ∷ []) fs e has

pub blamed_behind : {F : Type 0} (m : F) (fs gs : List F) (e : F) → Contains gs e → Contains (m ∷ (fs ++ gs)) e
blamed_behind m fs gs e has = Contains-append_right (m ∷ []) (fs ++ gs) e (Contains-append_right fs gs e has)

pub blamed_front : {F : Type 0} (m : F) (fs gs : List F) (e : F) → Contains (m ∷ fs) e → Contains (m ∷ (fs ++ gs)) e
blamed_front m fs gs e has = Contains-append_left (m ∷ fs) gs e has

-- what an element gives is among what all give
pub of_element : {X Y : Type 0} (f : X → List Y) (xs : List X) (i : ℕ) (x : X) (e : Y) → i < length xs → x ≡ get_or xs i x → Contains (f x) e → Contains (flat_map f xs) e
of_element f [] i x e within is has = absurd (omega (arith, within))
of_element f (y ∷ ys) zero x e within is has = Contains-append_left (f y) (flat_map f ys) e (subst (λ z. Contains (f z) e) is has)
of_element f (y ∷ ys) (suc i) x e within is has = Contains-append_right (f y) (flat_map f ys) e (of_element f ys i x e (omega (arith, within)) is has)
