-- An element of a list that is replaced or taken out, and the others.
use Rattle.std.proofs.Common.{◌≡◌, ℕ, ◌+◌, ◌<◌, ◌≤◌, List, [], ◌∷◌, length, get_or, zero, suc, slice_set, Option, Some, refl, sym, ap, ◌∙◌, arith}
use Rattle.std.specs.Option.{option_and_then}
use Rattle.std.specs.List.{slice_get}
use Rattle.std.proofs.lemmas.Option.{slice_get-get_or}

pub set-other : {X : Type 0} (xs : List X) (i : ℕ) (y : X) (k : ℕ) → (k ≡ i → ⊥) → slice_get (slice_set xs i y) k ≡ slice_get xs k
set-other [] i y k other = refl
set-other (x ∷ xs) zero y zero other = absurd (other refl)
set-other (x ∷ xs) zero y (suc k) other = refl
set-other (x ∷ xs) (suc i) y zero other = refl
set-other (x ∷ xs) (suc i) y (suc k) other = set-other xs i y k (λ e. other (ap suc e))

pub set-here : {X : Type 0} (xs : List X) (i : ℕ) (y : X) → i < length xs → slice_get (slice_set xs i y) i ≡ Some y
set-here [] i y within = absurd (omega (arith, within))
set-here (x ∷ xs) zero y within = refl
set-here (x ∷ xs) (suc i) y within = set-here xs i y (omega (arith, within))

-- an element that is taken out, and those after it
pub taken_at : {X : Type 0} (xs : List (Option X)) (i : ℕ) (x d : Option X) → i < length xs → x ≡ get_or xs i d → x ≡ option_and_then (λ p. p) (slice_get xs i)
taken_at xs i x d within is = is ∙ sym (ap (λ o. option_and_then (λ p. p) o) (slice_get-get_or xs i d within))

pub kept_at : {X : Type 0} (xs : List (Option X)) (i : ℕ) (y : Option X) (k : ℕ) → i + 1 ≤ k → option_and_then (λ p. p) (slice_get (slice_set xs i y) k) ≡ option_and_then (λ p. p) (slice_get xs k)
kept_at xs i y k behind = ap (λ o. option_and_then (λ p. p) o) (set-other xs i y k (λ e. absurd (omega (arith, behind, e))))
