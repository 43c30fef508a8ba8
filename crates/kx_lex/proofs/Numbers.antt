-- Numbers of so few bytes that their value is known to fit.
use Rattle.std.proofs.Common.{ℕ, zero, suc, ◌+◌, ◌*◌, ◌^◌, ◌<◌, ◌≤◌, Bool, true, false, if◌then◌else◌, List, [], ◌∷◌, length, drop, length-drop, arith}
use Rattle.std.proofs.lemmas.Bool.Decides.{nat_tests}
use Rattle.std.proofs.Math.Nat.{mul-le-mul_right, mul-le-mul_left}
use Rattle.std.specs.Char.{digit_value}
use Rattle.std.specs.Str.Parse.{digits_value, digits_value_after}
use Rattle.kx_lex.specs.Kinds.{number_value}
use Rattle.kx_lex.specs.Pieces.{begins_hex}

digit-most : (c : ℕ) → digit_value c ≤ 36
digit-most c = grind (arith, nat_tests)

-- m and k digits of the greatest value after it
abbrev most : ℕ → ℕ → ℕ → ℕ
most radix m zero = m
most radix m (suc k) = most radix (m * radix + 36) k

most-grows : (radix m k : ℕ) → 1 ≤ radix → m ≤ most radix m k
most-grows radix m zero one = omega arith
most-grows radix m (suc k) one = omega (arith, most-grows radix (m * radix + 36) k one, mul-le-mul_left m one)

at-most : (radix n m k : ℕ) (cs : List ℕ) → 1 ≤ radix → n ≤ m → length cs ≤ k → digits_value_after radix n cs ≤ most radix m k
at-most radix n m k [] one le few = omega (arith, most-grows radix m k one)
at-most radix n m zero (c ∷ cs) one le few = absurd (omega arith)
at-most radix n m (suc k) (c ∷ cs) one le few =
    at-most radix (n * radix + digit_value c) (m * radix + 36) k cs one (omega (arith, mul-le-mul_right radix le, digit-most c)) (omega arith)

-- even of bytes that aren't digits
pub number-short : (digits : List ℕ) → length digits ≤ 9 → number_value digits < 2 ^ 32
unfolding number_value
number-short digits few = by (begins_hex digits)
  where
    by : (hex : Bool) → (if hex then digits_value 16 (drop 2 digits) else digits_value 10 digits) < 2 ^ 32
    by true = omega (arith, at-most 16 0 0 7 (drop 2 digits) (omega arith) (omega arith) (omega (arith, length-drop 2 digits)))
    by false = omega (arith, at-most 10 0 0 9 digits (omega arith) (omega arith) few)
