-- Numbers that rise, and a search among them.
use Rattle.std.proofs.Common.{◌≡◌, ℕ, ◌≤◌, ◌<◌, zero, suc, Bool, true, false, ◌&&◌, ◌||◌, nat_eq, nat_le, List, [], ◌∷◌, get_or, length, Result, Ok, Err, is_ok, inl, inr, refl, sym, ap, arith}
use Rattle.std.proofs.lemmas.Bool.{and_parts, cases_lt, leb-true}
use Rattle.std.proofs.lemmas.Bool.Decides.{nat_tests}
use Rattle.std.proofs.lemmas.List.Sorted.{searched}
use Rattle.std.specs.List.{list_any}
use Rattle.std.specs.List.Sorted.{IsBinarySearchResult}
use Rattle.std.specs.Ordering.{nat_cmp}
use Rattle.ks_core.specs.Rising.{IsRising}

-- none is less than the number or than one before it
unfoldable pub rises_from : ℕ → List ℕ → Bool
rises_from low [] = true
rises_from low (n ∷ ns) = nat_le low n && rises_from n ns

rises-low : (low : ℕ) (ns : List ℕ) (j : ℕ) → rises_from low ns ≡ true → j < length ns → low ≤ get_or ns j 0
unfolding rises_from
rises-low low [] j h within = absurd (omega (arith, within))
rises-low low (n ∷ ns) zero h within = leb-true low n (and_parts (nat_le low n) (rises_from n ns) h).0
rises-low low (n ∷ ns) (suc j) h within =
    let parts = and_parts (nat_le low n) (rises_from n ns) h in
    let rest = rises-low n ns j parts.1 (omega (arith, within)) in omega (arith, rest, leb-true low n parts.0)

rises-between : (low : ℕ) (ns : List ℕ) (i j : ℕ) → rises_from low ns ≡ true → i ≤ j → j < length ns → get_or ns i 0 ≤ get_or ns j 0
unfolding rises_from
rises-between low [] i j h before within = absurd (omega (arith, within))
rises-between low (n ∷ ns) zero zero h before within = omega arith
rises-between low (n ∷ ns) zero (suc j) h before within = rises-low n ns j (and_parts (nat_le low n) (rises_from n ns) h).1 (omega (arith, within))
rises-between low (n ∷ ns) (suc i) zero h before within = absurd (omega (arith, before))
rises-between low (n ∷ ns) (suc i) (suc j) h before within = rises-between n ns i j (and_parts (nat_le low n) (rises_from n ns) h).1 (omega (arith, before)) (omega (arith, within))

pub rising : (ns : List ℕ) → rises_from 0 ns ≡ true → IsRising ns
rising ns h = record { rises = λ i j before within. rises-between 0 ns i j h before within }

-- a number that stands at a place is there, and one that stands at none isn't
pub stands : (n : ℕ) (ns : List ℕ) (i : ℕ) → i < length ns → get_or ns i 0 ≡ n → list_any (nat_eq n) ns ≡ true
stands n [] i within is = absurd (omega (arith, within))
stands n (m ∷ ns) zero within is = let same : nat_eq n m ≡ true = grind (arith, nat_tests) in ap (λ b. b || list_any (nat_eq n) ns) same
stands n (m ∷ ns) (suc i) within is = by (nat_eq n m) (stands n ns i (omega (arith, within)) is)
  where
    by : (b : Bool) → list_any (nat_eq n) ns ≡ true → (b || list_any (nat_eq n) ns) ≡ true
    by true h = refl
    by false h = h

pub stands_nowhere : (n : ℕ) (ns : List ℕ) → ((i : ℕ) → i < length ns → get_or ns i 0 ≡ n → ⊥) → list_any (nat_eq n) ns ≡ false
stands_nowhere n [] other = refl
stands_nowhere n (m ∷ ns) other = by (nat_eq n m) refl (λ h. stands_nowhere n ns h)
  where
    by : (b : Bool) → nat_eq n m ≡ b → (((i : ℕ) → i < length ns → get_or ns i 0 ≡ n → ⊥) → list_any (nat_eq n) ns ≡ false) → (b || list_any (nat_eq n) ns) ≡ false
    by true same rest = let is : m ≡ n = grind (arith, nat_tests) in absurd (other 0 (omega arith) is)
    by false h rest = rest (λ i within is. other (suc i) (omega (arith, within)) is)

-- what a search answers, and what a first number that is greater says
pub searched_stands : (n : ℕ) (ns : List ℕ) (r : Result ℕ ℕ) → IsBinarySearchResult (λ y. nat_cmp y n) ns r → IsRising ns → is_ok r ≡ list_any (nat_eq n) ns
searched_stands n ns (Ok i) found rising =
    let at = searched ns n (Ok i) found rising.rises in sym (stands n ns i at.0 at.1)
searched_stands n ns (Err i) found rising =
    let at = searched ns n (Err i) found rising.rises in
    sym (stands_nowhere n ns (λ j within is. elim (cases_lt j i) [
      | inl before ↦ let less = at.1 j before in omega (arith, less, is)
      | inr after ↦ let more = at.2 j after within in omega (arith, more, is)
    ]))

pub stands_after : (n : ℕ) (ns : List ℕ) → IsRising ns → n < get_or ns 0 0 → list_any (nat_eq n) ns ≡ false
stands_after n ns rising low = stands_nowhere n ns (λ j within is. let least = rising.rises 0 j (omega arith) within in omega (arith, least, is, low))
