-- A table's bytes, one record more.
use Rattle.std.proofs.Common.{ℕ, zero, suc, List, [], ◌∷◌, ◌++◌, ◌≡◌, ◌+◌, Option, Some, take, slice_get, ap, sym, ◌∙◌, append_assoc, append-nil, add-one, subst}
use Rattle.std.specs.List.{flat_map}
use Rattle.ks_core.specs.BufferedOut.{Gathered, Writes}
use Rattle.ks_core.proofs.BufferedOutLemmas.{writes_then}

more_bytes : {X : Type 0} (f : X → List ℕ) (xs : List X) (i : ℕ) (x : X) → slice_get xs i ≡ Some x → flat_map f (take (suc i) xs) ≡ flat_map f (take i xs) ++ f x
more_bytes f [] i x at = cc
more_bytes f (y ∷ ys) zero x at = let same : y ≡ x = cc in rw same (append-nil (f x))
more_bytes f (y ∷ ys) (suc i) x at = ap (λ t. f y ++ t) (more_bytes f ys i x at) ∙ sym (append_assoc (f y) (flat_map f (take i ys)) (f x))

pub table_more : {X D : Type 0} (written : D → Option (List ℕ)) (failures : D → ℕ) (d e h : D) (p q r : Gathered) (f : X → List ℕ) (xs : List X) (i : ℕ) (x : X) (piece : List ℕ) → slice_get xs i ≡ Some x → piece ≡ f x
    → Writes written failures d p e q (flat_map f (take i xs)) → Writes written failures e q h r piece → Writes written failures d p h r (flat_map f (take (i + 1) xs))
table_more written failures d e h p q r f xs i x piece at piece_is so_far here =
    subst (λ t. Writes written failures d p h r t) (sym (ap (λ n. flat_map f (take n xs)) (add-one i) ∙ more_bytes f xs i x at ∙ ap (λ t. flat_map f (take i xs) ++ t) (sym piece_is)))
    (writes_then written failures d e h p q r (flat_map f (take i xs)) piece so_far here)
