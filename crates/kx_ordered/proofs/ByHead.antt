-- Names are compared by their numbers first.
use Rattle.std.proofs.Common.{◌≡◌, ℕ, List, refl, sym, ap, ◌∙◌}
use Rattle.std.specs.Cmp.Lexicographic.{slice_cmp}
use Rattle.std.specs.Ordering.{nat_cmp, ordering_then}
use Rattle.std.specs.declared.cmp.Ordering.{Ordering}
use Rattle.std.specs.declared.cmp.Ordering.TheVariants.{Less, Equal, Greater}
use Rattle.kx_ordered.specs.Names.{head_of, name_cmp}

-- names are compared by their numbers, and by their bytes only where these are the same
module _ (a b : List ℕ) (x y : List ℕ) (m n : ℕ) (shown : a ≡ x) (other : b ≡ y) (headed : m ≡ head_of a) (headed_other : n ≡ head_of b) (r : Ordering) (ranked : r ≡ nat_cmp m n) where
  by_head : ordering_then r (slice_cmp nat_cmp a b) ≡ name_cmp x y
  unfolding name_cmp
  by_head =
      ap (λ o. ordering_then o (slice_cmp nat_cmp a b)) (ranked ∙ ap (nat_cmp m) headed_other ∙ ap (λ k. nat_cmp k (head_of b)) headed)
      ∙ ap (λ l. name_cmp l b) shown ∙ ap (name_cmp x) other

  pub by_bytes : (s : Ordering) → s ≡ slice_cmp nat_cmp a b → r ≡ Equal → s ≡ name_cmp x y
  by_bytes s is equal = is ∙ ap (λ o. ordering_then o (slice_cmp nat_cmp a b)) (sym equal) ∙ by_head

  pub by_heads : (r ≡ Equal → ⊥) → r ≡ name_cmp x y
  by_heads unequal = alone r unequal ∙ by_head
    where
      alone : (o : Ordering) → (o ≡ Equal → ⊥) → o ≡ ordering_then o (slice_cmp nat_cmp a b)
      alone Less h = refl
      alone Equal h = absurd (h refl)
      alone Greater h = refl
