-- Sums of the counts that rows tell, and what holds of each row.
use Rattle.std.proofs.Common.{ℕ, zero, suc, ◌≡◌, All, List, [], ◌∷◌, ◌++◌, Option, None, Some, length, take, slice_get, sum_by, refl, sym, ap, subst, ◌∙◌, arith}
use Rattle.std.proofs.lemmas.List.{length-append}
use Rattle.std.proofs.lemmas.List.Elements.{All-head, All-tail, All-take}
use Rattle.std.proofs.lemmas.List.Sums.{sum_by-cons}
use Rattle.std.proofs.lemmas.Option.{none-some, same_Some}
use Rattle.std.specs.List.{flat_map}
use Rattle.kx_builder.proofs.Placing.{row_at, row_past}
use Rattle.kx_builder.specs.Placed.{rows_behind, rows_of}
use Rattle.kx_tables.specs.Sound.{EachRow}

module _ {X R : Type 0} (row : List X → X → R) where
  behind_take : (before xs : List X) (i : ℕ) → take i (rows_behind row before xs) ≡ rows_behind row before (take i xs)
  behind_take before xs zero = refl
  behind_take before [] (suc i) = refl
  behind_take before (x ∷ xs) (suc i) = ap (λ rs. row before x ∷ rs) (behind_take (before ++ x ∷ []) xs i)

  pub rows_take : (xs : List X) (i : ℕ) → take i (rows_of row xs) ≡ rows_of row (take i xs)
  rows_take xs i = behind_take [] xs i

  -- a row comes from the thing at its place
  row_of : (xs : List X) (i : ℕ) (r : R) (o : Option X) → slice_get xs i ≡ o → slice_get (rows_of row xs) i ≡ Some r → (x : X) × (slice_get xs i ≡ Some x) × (row (take i xs) x ≡ r)
  row_of xs i r None e at = absurd (none-some r (sym (row_past row xs i e) ∙ at))
  row_of xs i r (Some x) e at = (x, e, same_Some (row (take i xs) x) r (sym (row_at row xs i x e) ∙ at))

  pub row_from : (xs : List X) (i : ℕ) (r : R) → slice_get (rows_of row xs) i ≡ Some r → (x : X) × (slice_get xs i ≡ Some x) × (row (take i xs) x ≡ r)
  row_from xs i r at = row_of xs i r (slice_get xs i) refl at

  pub each_row : (xs : List X) (P : ℕ → R → Type 0) → ((i : ℕ) (x : X) → slice_get xs i ≡ Some x → P i (row (take i xs) x)) → EachRow (rows_of row xs) P
  each_row xs P each i r at =
      let from = row_from xs i r at in
      subst (P i) from.2 (each i from.0 from.1)

  module _ {A : Type 0} (f : X → List A) (count : R → ℕ) (Q : X → Type 0) (tells : (before : List X) (x : X) → Q x → count (row before x) ≡ length (f x)) where
    behind_sum : (before xs : List X) → All Q xs → sum_by count (rows_behind row before xs) ≡ length (flat_map f xs)
    behind_sum before [] each = refl
    behind_sum before (x ∷ xs) each =
        omega (arith, sum_by-cons count (row before x) (rows_behind row (before ++ x ∷ []) xs), tells before x (All-head Q x xs each), behind_sum (before ++ x ∷ []) xs (All-tail Q x xs each), length-append (f x) (flat_map f xs))

    -- the sum of what rows tell is how much their things own
    pub sum_of_rows : (xs : List X) → All Q xs → sum_by count (rows_of row xs) ≡ length (flat_map f xs)
    sum_of_rows xs each = behind_sum [] xs each

    pub sum_before : (xs : List X) (i : ℕ) → All Q xs → sum_by count (take i (rows_of row xs)) ≡ length (flat_map f (take i xs))
    sum_before xs i each = ap (sum_by count) (rows_take xs i) ∙ sum_of_rows (take i xs) (All-take Q i xs each)
