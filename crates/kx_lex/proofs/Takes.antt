-- The front of a front.
use Rattle.std.proofs.Common.{ℕ, zero, suc, ◌≤◌, ◌≡◌, List, [], ◌∷◌, take, refl, ap, arith}

pub take-shorter : {A : Type 0} (m n : ℕ) (xs : List A) → m ≤ n → take m (take n xs) ≡ take m xs
take-shorter zero n xs h = refl
take-shorter (suc m) zero xs h = absurd (omega arith)
take-shorter (suc m) (suc n) [] h = refl
take-shorter (suc m) (suc n) (x ∷ xs) h = ap (λ (ys : List _). x ∷ ys) (take-shorter m n xs (omega arith))
