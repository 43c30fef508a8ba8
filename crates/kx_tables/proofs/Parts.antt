-- Rows of a part of a table.
use Rattle.std.proofs.Common.{◌≡◌, ℕ, zero, suc, ◌+◌, ◌<◌, List, [], ◌∷◌, take, drop, slice_get, refl, sym, ap, ◌∙◌, arith}
use Rattle.kx_tables.specs.Content.{part}

slice_get-take_in : {X : Type 0} (xs : List X) (n i : ℕ) → i < n → slice_get (take n xs) i ≡ slice_get xs i
slice_get-take_in xs zero i within = absurd (omega arith)
slice_get-take_in [] (suc n) i within = refl
slice_get-take_in (y ∷ ys) (suc n) zero within = refl
slice_get-take_in (y ∷ ys) (suc n) (suc i) within = slice_get-take_in ys n i (omega arith)

pub slice_get-drop : {X : Type 0} (xs : List X) (n i : ℕ) → slice_get (drop n xs) i ≡ slice_get xs (n + i)
slice_get-drop xs zero i = let e : 0 + i ≡ i = omega arith in ap (slice_get xs) (sym e)
slice_get-drop [] (suc n) i = refl
slice_get-drop (y ∷ ys) (suc n) i = let e : suc n + i ≡ suc (n + i) = omega arith in slice_get-drop ys n i ∙ ap (slice_get (y ∷ ys)) (sym e)

pub slice_get-part : {X : Type 0} (xs : List X) (first count i : ℕ) → i < count → slice_get (part xs first count) i ≡ slice_get xs (first + i)
slice_get-part xs first count i within = slice_get-take_in (drop first xs) count i within ∙ slice_get-drop xs first i
