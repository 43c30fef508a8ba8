-- The order of names: by a number of the first eight bytes, then by all bytes.
use Rattle.std.specs.Prelude.{◌≡◌, ℕ, ◌+◌, ◌*◌, ◌^◌, ◌%◌, Bool, true, false, List, [], ◌∷◌, take}
use Rattle.std.specs.Cmp.{IsTotalOrder}
use Rattle.std.specs.Cmp.Lexicographic.{nat_list_cmp_total, slice_cmp}
use Rattle.std.specs.Ordering.{is_eq, nat_cmp, on, then_cmp, ordering_then}
use Rattle.std.specs.Str.{bytes_eq}
use Rattle.std.specs.declared.cmp.Ordering.{Ordering}
use Rattle.std.specs.declared.cmp.Ordering.TheVariants.{Less, Equal, Greater}
use Rattle.std.proofs.Common.{refl, sym, ap, ◌∙◌, true≢false}
use Rattle.std.proofs.lemmas.Cmp.{nat_cmp_total, on_total, then_total, tied_itself}
use Rattle.std.proofs.lemmas.Map.Text.{is_eq-slice_cmp}
use Rattle.std.proofs.lemmas.Slice.Eq.{bytes_eq-Decides}

-- a number with one more byte, in 64 bits
abbrev pub with_byte : ℕ → ℕ → ℕ
with_byte head byte = (head * 256 % 2 ^ 64 + byte) % 2 ^ 64

abbrev pub folded : ℕ → List ℕ → ℕ
folded head [] = head
folded head (byte ∷ rest) = folded (with_byte head byte) rest

-- the number of the first eight bytes of a name
unfoldable pub head_of : List ℕ → ℕ
head_of name = folded 0 (take 8 name)

unfoldable pub name_cmp : List ℕ → List ℕ → Ordering
name_cmp = then_cmp (on head_of nat_cmp) (slice_cmp nat_cmp)

pub name_cmp_total : IsTotalOrder name_cmp
unfolding name_cmp
name_cmp_total = then_total (on_total head_of nat_cmp_total) nat_list_cmp_total

-- names that are neither below nor above one another are the same
pub name_cmp_ties : (a b : List ℕ) → bytes_eq a b ≡ is_eq (name_cmp a b)
unfolding name_cmp
name_cmp_ties a b = by (nat_cmp (head_of a) (head_of b)) (bytes_eq a b) (sym (is_eq-slice_cmp a b)) same
  where
    same : bytes_eq a b ≡ true → nat_cmp (head_of a) (head_of b) ≡ Equal
    same h = ap (λ n. nat_cmp (head_of a) (head_of n)) (sym ((bytes_eq-Decides a b).0 h)) ∙ tied_itself nat_cmp_total (head_of a)

    by : (r : Ordering) (e : Bool) → e ≡ is_eq (slice_cmp nat_cmp a b) → (e ≡ true → r ≡ Equal) → e ≡ is_eq (ordering_then r (slice_cmp nat_cmp a b))
    by Equal e is h = is
    by Less true is h = absurd (true≢false (sym (ap is_eq (h refl))))
    by Less false is h = refl
    by Greater true is h = absurd (true≢false (sym (ap is_eq (h refl))))
    by Greater false is h = refl
