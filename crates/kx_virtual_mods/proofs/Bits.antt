-- Masks of eight bits as sets of 32.
use Rattle.std.proofs.Common.{◌≡◌, ℕ, ◌+◌, ◌-◌, ◌^◌, ◌<◌, ◌≤◌, ◌==◌, ◌||◌, Bool, true, false, min, max, bit_and, sym, ap, ◌∙◌, arith, ◌⊎◌, inl, inr, w8, w32, add-one, refl}
use Rattle.std.specs.Int.{bit_at}
use Rattle.std.proofs.lemmas.Bool.{cases_lt}
use Rattle.std.proofs.lemmas.Bool.Decides.{nat_tests}
use Rattle.std.proofs.lemmas.Nat.Bits.{bit_at-lt, bit_at_above, bit_at_and, bit_at_not, bit_at_or, same_from_bits}
use Rattle.kx_virtual_mods.specs.Sets.{any_below, has, union, without}

-- a mask loses the same bits at both widths
pub without_narrow : (m n : ℕ) → m < 2 ^ 8 → n < 2 ^ 8 → bit_and m (255 - n) ≡ without m n
without_narrow m n small other = same_from_bits (bit_and m (255 - n)) (without m n) (λ i. bit_at_and m (255 - n) i ∙ by i (cases_lt i 8) ∙ sym (bit_at_and m (2 ^ 32 - 1 - n) i))
  where
    by : (i : ℕ) → (i < 8) ⊎ (8 ≤ i) → min (bit_at m i) (bit_at (255 - n) i) ≡ min (bit_at m i) (bit_at (2 ^ 32 - 1 - n) i)
    by i (inl low) =
        let narrow : bit_at (255 - n) i ≡ 1 - bit_at n i = bit_at_not w8 n i (omega arith) (omega arith) in
        let wide : bit_at (2 ^ 32 - 1 - n) i ≡ 1 - bit_at n i = bit_at_not w32 n i (omega arith) (omega arith) in
        ap (min (bit_at m i)) (narrow ∙ sym wide)
    by i (inr high) =
        let none : bit_at m i ≡ 0 = bit_at_above m 8 i small high in
        omega arith

pub one-or : (x y : ℕ) → x < 2 → y < 2 → (max x y == 1) ≡ ((x == 1) || (y == 1))
one-or x y small other = grind (arith, nat_tests, small, other)

pub has_union : (m n i : ℕ) → has (union m n) i ≡ (has m i || has n i)
has_union m n i = ap (λ b. b == 1) (bit_at_or m n i) ∙ one-or (bit_at m i) (bit_at n i) (bit_at-lt m i) (bit_at-lt n i)

pub below_more : (n : ℕ) (test : ℕ → Bool) → any_below (n + 1) test ≡ (any_below n test || test n)
unfolding any_below
below_more n test = rw add-one refl

pub below_none : (b : Bool) (test : ℕ → Bool) → b ≡ (b || any_below 0 test)
unfolding any_below
below_none true test = refl
below_none false test = refl

pub or-inner : (a b c : Bool) → ((a || b) || c) ≡ (a || (b || c))
or-inner true b c = refl
or-inner false b c = refl

-- a set with what one more name stands for
pub below_goes : (mods extra i n : ℕ) (b : Bool) (test : ℕ → Bool) → has mods i ≡ (b || any_below n test) → has extra i ≡ test n → has (union mods extra) i ≡ (b || any_below (n + 1) test)
below_goes mods extra i n b test before more =
    has_union mods extra i ∙ ap (λ x. x || has extra i) before ∙ ap (λ x. (b || any_below n test) || x) more ∙ or-inner b (any_below n test) (test n) ∙ ap (λ x. b || x) (sym (below_more n test))
