-- A list that is filled from its front.
use Rattle.std.proofs.Common.{◌≡◌, ◌<◌, ℕ, zero, suc, List, [], ◌∷◌, ◌++◌, Some, ap, arith, drop, length, map, take}
use Rattle.std.proofs.Math.ListN.{set}
use Rattle.std.specs.Prelude.{slice_get}

pub filled_one_more : {A C : Type 0} (f : A → C) (xs : List A) (ys : List C) (i : ℕ) (x : A) → i < length ys → slice_get xs i ≡ Some x →
    set (map f (take i xs) ++ drop i ys) i (f x) ≡ map f (take (suc i) xs) ++ drop (suc i) ys
filled_one_more f [] ys i x within there = absurd (cc)
filled_one_more f (a ∷ others) [] i x within there = absurd (omega (arith, within))
filled_one_more f (a ∷ others) (b ∷ bs) zero x within there = cc
filled_one_more f (a ∷ others) (b ∷ bs) (suc n) x within there = ap (λ cs. f a ∷ cs) (filled_one_more f others bs n x (omega (arith, within)) there)
