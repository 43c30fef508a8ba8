-- Sets of real modifiers and their masks.
use Rattle.std.proofs.Common.{◌≡◌, ℕ, ◌-◌, ◌<◌, ◌≤◌, ◌==◌, ◌^◌, ◌&&◌, ◌||◌, not, Bool, true, false, zero, suc, min, nat_eq, nat_lt, refl, sym, ap, ◌∙◌, subst, arith, if◌then◌else◌, ◌⊎◌, inl, inr}
use Rattle.std.specs.Int.{bit_at}
use Rattle.std.specs.Int.RustNames.{bit_and}
use Rattle.std.proofs.lemmas.Bool.{cases_lt, false≢true, eqb-true, eqb-false, eq-eqb, le-ltb, lt-ltb}
use Rattle.std.proofs.lemmas.Nat.Bits.{bit_at_and, bit_at-lt, bit_at-pow_same, bit_at-pow_other, bit_at-zero, bit_at-trailing_zeros, same_from_bits_below, bit_at_not}
use Rattle.std.proofs.Common.{w8}
use Rattle.std.proofs.lemmas.Nat.{and_le_l, or_lt, pow_pos}
use Rattle.std.proofs.Math.Pow.{pow-lt}
use Rattle.std.specs.Int.{trailing_zeros}
use Rattle.kx_virtual_mods.specs.Sets.{any_below, has}
use Rattle.std.specs.Int.RustNames.{bit_or}
use Rattle.kx_mods.specs.Mods.{mask}
use Rattle.kx_mods.specs.declared.mods.Mods.{Mods}
use Rattle.kx_keys.specs.Rows.{mask_below, mods_of, set_mask}
use Rattle.kx_keys.specs.Selecting.{RealSet, are_same, differ}
use Rattle.kx_virtual_mods.proofs.Bits.{has_union}

pub none_of : (n : ℕ) (f : ℕ → Bool) → any_below n f ≡ false → (k : ℕ) → k < n → f k ≡ false
unfolding any_below
none_of zero f none k small = absurd (omega (arith, small))
none_of (suc n) f none k small = by (any_below n f) refl (f n) refl (none_of n f)
  where
    at : f n ≡ false → ((j : ℕ) → j < n → f j ≡ false) → f k ≡ false
    at here before = elim (nat_eq k n) as (λ c. nat_eq k n ≡ c → f k ≡ false) [ true ↦ λ h. ap f (eqb-true k n h) ∙ here | false ↦ λ h. before k (let other = eqb-false k n h in omega (arith, small, other)) ] refl

    by : (a : Bool) → any_below n f ≡ a → (b : Bool) → f n ≡ b → (any_below n f ≡ false → (j : ℕ) → j < n → f j ≡ false) → f k ≡ false
    by true e b g before = absurd (false≢true (sym none ∙ ap (λ c. c || f n) e))
    by false e true g before = absurd (false≢true (sym none ∙ ap (λ c. c || f n) e ∙ g))
    by false e false g before = at g (before e)

pub all_false : (n : ℕ) (f : ℕ → Bool) → ((k : ℕ) → k < n → f k ≡ false) → any_below n f ≡ false
unfolding any_below
all_false zero f none = refl
all_false (suc n) f none = ap (λ c. c || f n) (all_false n f (λ k small. none k (omega (arith, small)))) ∙ none n (omega arith)

pub some_of : (n : ℕ) (f : ℕ → Bool) (k : ℕ) → k < n → f k ≡ true → any_below n f ≡ true
some_of n f k small here = by (any_below n f) refl
  where
    by : (b : Bool) → any_below n f ≡ b → any_below n f ≡ true
    by true e = e
    by false e = absurd (false≢true (sym (none_of n f e k small) ∙ here))

pub any_wider : (n : ℕ) (f g : ℕ → Bool) → ((k : ℕ) → f k ≡ true → g k ≡ true) → any_below n f ≡ true → any_below n g ≡ true
any_wider n f g wider some = by (any_below n g) refl
  where
    one : (k : ℕ) (b : Bool) → f k ≡ b → g k ≡ false → f k ≡ false
    one k true e none = absurd (false≢true (sym none ∙ wider k e))
    one k false e none = e

    by : (b : Bool) → any_below n g ≡ b → any_below n g ≡ true
    by true e = e
    by false e = absurd (false≢true (sym (all_false n f (λ k small. one k (f k) refl (none_of n g e k small))) ∙ some))

-- a bit is 0 or 1
bit_from : (a b : ℕ) → a < 2 → b < 2 → (a == 1) ≡ (b == 1) → a ≡ b
bit_from a b low small same = elim (a == 1) as (λ c. (a == 1) ≡ c → a ≡ b) [
  | true ↦ λ e. eqb-true a 1 e ∙ sym (eqb-true b 1 (sym same ∙ e))
  | false ↦ λ e. let other = eqb-false a 1 e in let another = eqb-false b 1 (sym same ∙ e) in omega (arith, low, small, other, another)
] refl

pub same_masks : (m w : ℕ) → m < 2 ^ 8 → w < 2 ^ 8 → ((r : ℕ) → r < 8 → has m r ≡ has w r) → m ≡ w
same_masks m w small low same = same_from_bits_below 8 m w small low (λ r within. bit_from (bit_at m r) (bit_at w r) (bit_at-lt m r) (bit_at-lt w r) (same r within))

alike_from : (a b : Bool) → differ a b ≡ false → a ≡ b
alike_from true true e = refl
alike_from true false e = absurd (false≢true (sym e))
alike_from false true e = absurd (false≢true (sym e))
alike_from false false e = refl

alike_none : (a : Bool) → differ a a ≡ false
alike_none true = refl
alike_none false = refl

-- two masks are equal where their sets are the same
pub mask_test : (m w : ℕ) (s : RealSet) → m < 2 ^ 8 → w < 2 ^ 8 → ((r : ℕ) → r < 8 → has m r ≡ s r) → (m == w) ≡ are_same s (has w)
mask_test m w s small low bits = by (any_below 8 (λ r. differ (s r) (has w r))) refl
  where
    by : (b : Bool) → any_below 8 (λ r. differ (s r) (has w r)) ≡ b → (m == w) ≡ are_same s (has w)
    by false e = eq-eqb m w (same_masks m w small low (λ r within. bits r within ∙ alike_from (s r) (has w r) (none_of 8 (λ r. differ (s r) (has w r)) e r within))) ∙ sym (ap not e)
    by true e = elim (m == w) as (λ c. (m == w) ≡ c → (m == w) ≡ are_same s (has w)) [
      | true ↦ λ h. absurd (false≢true (sym (all_false 8 (λ r. differ (s r) (has w r)) (λ r within. ap (λ a. differ a (has w r)) (sym (bits r within) ∙ ap (λ n. has n r) (eqb-true m w h)) ∙ alike_none (has w r))) ∙ e))
      | false ↦ λ h. h ∙ sym (ap not e)
    ] refl

-- a mask of a set isn't 0 where the set has something
pub some_bits : (m : ℕ) (s : RealSet) → m < 2 ^ 8 → ((r : ℕ) → r < 8 → has m r ≡ s r) → not (m == 0) ≡ any_below 8 s
some_bits m s small bits = elim (m == 0) as (λ c. (m == 0) ≡ c → not (m == 0) ≡ any_below 8 s) [
  | true ↦ λ e. ap not e ∙ sym (all_false 8 s (λ r within. sym (bits r within) ∙ ap (λ n. has n r) (eqb-true m 0 e) ∙ ap (λ n. n == 1) (bit_at-zero r)))
  | false ↦ λ e.
      let lowest = bit_at-trailing_zeros w8 m (let other = eqb-false m 0 e in omega (arith, other)) small in
      ap not e ∙ sym (some_of 8 s (trailing_zeros w8 m) lowest.0 (sym (bits (trailing_zeros w8 m) lowest.0) ∙ ap (λ n. n == 1) lowest.1))
] refl

min_bits : (a b : ℕ) → a < 2 → b < 2 → (min a b == 1) ≡ ((a == 1) && (b == 1))
min_bits zero zero low small = refl
min_bits zero (suc zero) low small = refl
min_bits zero (suc (suc b)) low small = absurd (omega (arith, small))
min_bits (suc zero) zero low small = refl
min_bits (suc zero) (suc zero) low small = refl
min_bits (suc zero) (suc (suc b)) low small = absurd (omega (arith, small))
min_bits (suc (suc a)) b low small = absurd (omega (arith, low))

pub has_and : (a b r : ℕ) → has (bit_and a b) r ≡ (has a r && has b r)
has_and a b r = ap (λ n. n == 1) (bit_at_and a b r) ∙ min_bits (bit_at a r) (bit_at b r) (bit_at-lt a r) (bit_at-lt b r)

less_bits : (a : ℕ) → a < 2 → (1 - a == 1) ≡ not (a == 1)
less_bits zero low = refl
less_bits (suc zero) low = refl
less_bits (suc (suc a)) low = absurd (omega (arith, low))

pub has_without : (a b r : ℕ) → b < 2 ^ 8 → r < 8 → has (bit_and a (255 - b)) r ≡ (has a r && not (has b r))
has_without a b r small within = has_and a (255 - b) r ∙ ap (λ c. has a r && c) (ap (λ n. n == 1) (bit_at_not w8 b r small within) ∙ less_bits (bit_at b r) (bit_at-lt b r))

-- a mask whose modifiers another has lies within it
pub within_mask : (m n : ℕ) → m < 2 ^ 8 → ((r : ℕ) → r < 8 → has m r ≡ true → has n r ≡ true) → bit_and m n ≡ m
within_mask m n small wider = same_masks (bit_and m n) m (let less = and_le_l m n in omega (arith, small, less)) small (λ r within. has_and m n r ∙ one r within (has m r) refl)
  where
    one : (r : ℕ) → r < 8 → (b : Bool) → has m r ≡ b → (b && has n r) ≡ b
    one r within true e = wider r within e
    one r within false e = refl

-- ---- The mask of a set

power_if : ℕ → Bool → ℕ
power_if n b = if b then 2 ^ n else 0

has_power : (n r : ℕ) (b : Bool) → has (power_if n b) r ≡ (b && (r == n))
unfolding power_if
has_power n r false = ap (λ m. m == 1) (bit_at-zero r)
has_power n r true = elim (r == n) as (λ c. (r == n) ≡ c → has (2 ^ n) r ≡ (r == n)) [
  | true ↦ λ e. ap (λ k. has (2 ^ n) k) (eqb-true r n e) ∙ ap (λ m. m == 1) (bit_at-pow_same n) ∙ sym e
  | false ↦ λ e. ap (λ m. m == 1) (bit_at-pow_other n r (eqb-false r n e)) ∙ sym e
] refl

below_is : (n : ℕ) (s : RealSet) → mask_below (suc n) s ≡ bit_or (mask_below n s) (power_if n (s n))
unfolding mask_below power_if
below_is n s = refl

-- a mask has those of its set, and no others
has_below : (n : ℕ) (s : RealSet) (r : ℕ) → has (mask_below n s) r ≡ (nat_lt r n && s r)
unfolding mask_below
has_below zero s r = ap (λ m. m == 1) (bit_at-zero r) ∙ sym (ap (λ c. c && s r) (le-ltb r 0 (omega arith)))
has_below (suc n) s r =
    ap (λ m. has m r) (below_is n s) ∙ has_union (mask_below n s) (power_if n (s n)) r
    ∙ (λ i. has_below n s r i || has_power n r (s n) i)
    ∙ cases (cases_lt r n) (r == n) refl
  where
    cases : (r < n) ⊎ (n ≤ r) → (b : Bool) → (r == n) ≡ b → ((nat_lt r n && s r) || (s n && (r == n))) ≡ (nat_lt r (suc n) && s r)
    cases (inl less) true e = absurd (let same = eqb-true r n e in omega (arith, less, same))
    cases (inl less) false e = (λ i. (lt-ltb r n less i && s r) || (s n && e i)) ∙ last (s r) (s n) ∙ sym (ap (λ c. c && s r) (lt-ltb r (suc n) (omega (arith, less))))
      where
        last : (a b : Bool) → ((true && a) || (b && false)) ≡ (true && a)
        last true b = refl
        last false true = refl
        last false false = refl
    cases (inr past) true e = (λ i. (le-ltb r n past i && s r) || (s n && e i)) ∙ last (s n) ∙ ap s (sym (eqb-true r n e)) ∙ sym (ap (λ c. c && s r) (lt-ltb r (suc n) (let same = eqb-true r n e in omega (arith, same))))
      where
        last : (b : Bool) → (false || (b && true)) ≡ b
        last true = refl
        last false = refl
    cases (inr past) false e = (λ i. (le-ltb r n past i && s r) || (s n && e i)) ∙ last (s n) ∙ sym (ap (λ c. c && s r) (le-ltb r (suc n) (let other = eqb-false r n e in omega (arith, past, other))))
      where
        last : (b : Bool) → (false || (b && false)) ≡ false
        last true = refl
        last false = refl

pub has_set : (s : RealSet) (r : ℕ) → r < 8 → has (set_mask s) r ≡ s r
has_set s r within = has_below 8 s r ∙ ap (λ c. c && s r) (lt-ltb r 8 within)

power_small : (n k : ℕ) (b : Bool) → n < k → power_if n b < 2 ^ k
unfolding power_if
power_small n k true less = pow-lt less
power_small n k false less = pow_pos k

below_small : (n : ℕ) (s : RealSet) → n ≤ 8 → mask_below n s < 2 ^ 8
unfolding mask_below
below_small zero s few = omega arith
below_small (suc n) s few = subst (λ m. m < 2 ^ 8) (sym (below_is n s)) (or_lt 8 (mask_below n s) (power_if n (s n)) (below_small n s (omega (arith, few))) (power_small n 8 (s n) few))

pub set_small : (s : RealSet) → set_mask s < 2 ^ 8
set_small s = below_small 8 s (omega arith)

pub mods_is : (m : Mods) (s : RealSet) → mask m < 2 ^ 8 → ((r : ℕ) → r < 8 → has (mask m) r ≡ s r) → m ≡ mods_of s
mods_is m s small bits = λ i. record { 0 = same_masks (mask m) (set_mask s) small (set_small s) (λ r within. bits r within ∙ sym (has_set s r within)) i }
