-- Faults beside others, and what is left of a list is folded after the next.
use Rattle.std.proofs.Common.{◌≡◌, ℕ, ◌+◌, ◌<◌, List, ◌∷◌, length, drop, fold, get_or, Contains, sym, ap, ◌∙◌, arith}
use Rattle.kx_merge.proofs.Going.{drop_next}

-- lack of memory is blamed beside other faults
pub memory_beside : {F : Type 0} (m : F) (fs : List F) (e : F) → e ≡ m → Contains (m ∷ fs) e
memory_beside m fs e h = (0, omega arith, sym h)

-- what is left is folded after the next
pub fold_goes : {X Y : Type 0} (f : Y → X → Y) (before acc next : Y) (xs : List X) (i : ℕ) (x : X) → i < length xs → x ≡ get_or xs i x → next ≡ f acc x → fold f before xs ≡ fold f acc (drop i xs) → fold f before xs ≡ fold f next (drop (i + 1) xs)
fold_goes f before acc next xs i x within is made left = left ∙ ap (fold f acc) (drop_next xs i x within is) ∙ ap (λ y. fold f y (drop (i + 1) xs)) (sym made)
