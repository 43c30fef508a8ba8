-- Sets of names, bit by bit.
use Rattle.std.proofs.Common.{◌≡◌, ℕ, ◌+◌, ◌==◌, ◌||◌, Bool, true, false, nat_eq, refl, sym, ap, ◌∙◌, arith}
use Rattle.std.specs.Int.{bit_at}
use Rattle.std.proofs.lemmas.Bool.{eqb-false, eqb-true}
use Rattle.std.proofs.lemmas.Nat.Bits.{bit_at-lt, bit_at-pow_other, bit_at-pow_same, bit_at-zero, bit_at_or}
use Rattle.kx_virtual_mods.specs.Sets.{any_below, has, has_virtual, union, virtual_set}
use Rattle.kx_keys.proofs.Acting.{any_next}
use Rattle.kx_virtual_mods.proofs.Bits.{one-or}

pub has_none : (bit : ℕ) → has 0 bit ≡ false
has_none bit = ap (λ n. n == 1) (bit_at-zero bit)

pub has_one : (number other : ℕ) → has_virtual (virtual_set number) other ≡ nat_eq other number
has_one number other = elim (nat_eq other number) as (λ c. nat_eq other number ≡ c → has_virtual (virtual_set number) other ≡ c) [
  | true ↦ λ e. ap (has_virtual (virtual_set number)) (eqb-true other number e) ∙ ap (λ n. n == 1) (bit_at-pow_same (number + 8))
  | false ↦ λ e. let apart = eqb-false other number e in ap (λ n. n == 1) (bit_at-pow_other (number + 8) (other + 8) (omega (arith, apart)))
] refl

pub has_with : (m n bit : ℕ) → has (union m n) bit ≡ (has m bit || has n bit)
has_with m n bit = ap (λ b. b == 1) (bit_at_or m n bit) ∙ one-or (bit_at m bit) (bit_at n bit) (bit_at-lt m bit) (bit_at-lt n bit)

-- a set with what the next of some numbers gives
pub next_with : (set more bit n : ℕ) (test : ℕ → Bool) → has set bit ≡ any_below n test → has more bit ≡ test n → has (union set more) bit ≡ any_below (n + 1) test
next_with set more bit n test before here = has_with set more bit ∙ (λ i. before i || here i) ∙ sym (any_next test n)

pub or_false : (a b : Bool) → b ≡ false → a ≡ (a || b)
or_false true b none = refl
or_false false b none = sym none
