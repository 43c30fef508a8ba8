-- Names of rows.
use Rattle.std.proofs.Common.{◌≡◌, ℕ, zero, suc, ◌+◌, ◌==◌, List, [], ◌∷◌, ◌++◌, Some, IfSome, ◌<◌, take, length, map, slice_get, arith, sym, ap, ◌∙◌}
use Rattle.std.proofs.lemmas.List.{map-append}
use Rattle.kx_print.proofs.Rows.{take-at}

pub named_at : {X : Type 0} (f : X → List ℕ) (xs : List X) (i : ℕ) (name : List ℕ) → i < length xs → IfSome (slice_get xs i) (λ x. name ≡ f x) → slice_get (map f xs) i ≡ Some name
named_at f [] i name within is = absurd (omega arith)
named_at f (x ∷ xs) zero name within is = ap Some (sym is)
named_at f (x ∷ xs) (suc i) name within is = named_at f xs i name (omega arith) is

pub map-take-at : {X Y : Type 0} (f : X → Y) (xs : List X) (i : ℕ) (x : X) → slice_get xs i ≡ Some x → map f (take (i + 1) xs) ≡ map f (take i xs) ++ f x ∷ []
map-take-at f xs i x at = ap (map f) (take-at xs i x at) ∙ map-append f (take i xs) (x ∷ [])
