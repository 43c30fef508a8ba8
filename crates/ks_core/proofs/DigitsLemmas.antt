-- The value of digits, read from the front.
use Rattle.std.proofs.Common.{◌≡◌, ℕ, ◌/◌, ◌%◌, ◌^◌, ◌<◌, ◌≤◌, Bool, cond, List, [], ◌∷◌, ◌++◌, length, map, None, Some, ap, ◌∙◌, arith, lit≤, lit<}
use Rattle.std.proofs.lemmas.Bool.{lt-ltb}
use Rattle.std.proofs.lemmas.Int.Digits.{digits_value-lt, digits_of_step}
use Rattle.std.proofs.lemmas.List.{map-append, length-map}
use Rattle.std.proofs.Math.Nat.{pow-le-pow_right}
use Rattle.std.specs.Fmt.{digit_glyph}
use Rattle.std.specs.Int.Digits.{digits_of}
use Rattle.std.specs.Str.Parse.{AllDigits, digits_value}
use Rattle.ks_core.specs.Digits.{in_32_bits}
use Rattle.ks_core.specs.Names.{hex_digits}

pub in_32_bits-small : (n : ℕ) → n < 4294967296 → in_32_bits n ≡ Some n
unfolding in_32_bits
in_32_bits-small n small = ap (λ b. cond b (Some n) None) (lt-ltb n 4294967296 small)

-- the hexadecimal digits of a number end with those of its remainder
pub hex_digits-step : (upper : Bool) (n : ℕ) → 0 < n → hex_digits upper n ≡ hex_digits upper (n / 16) ++ digit_glyph upper (n % 16) ∷ []
hex_digits-step upper n some = ap (map (digit_glyph upper)) (digits_of_step 16 n (lit≤ tt) some) ∙ map-append (digit_glyph upper) (digits_of 16 (n / 16)) (n % 16 ∷ [])

pub length-hex_digits : (upper : Bool) (n : ℕ) → length (hex_digits upper n) ≡ length (digits_of 16 n)
length-hex_digits upper n = length-map (digits_of 16 n) (digit_glyph upper)

-- what at most 8 hexadecimal digits spell fits
pub in_32_bits-hex : (ds : List ℕ) → AllDigits 16 ds → length ds ≤ 8 → in_32_bits (digits_value 16 ds) ≡ Some (digits_value 16 ds)
in_32_bits-hex ds all few =
    let below = digits_value-lt 16 ds all in
    let most : 16 ^ length ds ≤ 16 ^ 8 = pow-le-pow_right (lit< tt) few in
    in_32_bits-small (digits_value 16 ds) (omega (arith, below, most))
