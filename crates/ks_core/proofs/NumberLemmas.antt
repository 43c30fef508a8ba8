-- Hexadecimal digits that are written, and read back.
use Rattle.std.proofs.Common.{◌≡◌, ℕ, zero, suc, ◌+◌, ◌-◌, ◌^◌, ◌<◌, ◌≤◌, Bool, true, false, ◌&&◌, List, [], ◌∷◌, ◌++◌, inl, inr, length, map, replicate, refl, ap, ap₂, ◌∙◌, arith, lit<, lit≤, length-append}
use Rattle.std.proofs.Math.Nat.{pow-le-pow_right}
use Rattle.std.proofs.lemmas.Bool.{cases_lt}
use Rattle.std.proofs.lemmas.Bool.Decides.{nat_tests}
use Rattle.std.proofs.lemmas.Int.Digits.{digits_value_is, number_digits_of, number_lt, all_below_base_digits_of, length-digits_of-le, length-digits_of_step}
use Rattle.std.specs.Char.{digit_value, is_ascii_hexdigit}
use Rattle.std.specs.Fmt.{digit_glyph}
use Rattle.std.specs.Int.Digits.{digits_of, number_from_digits, AllBelowBase}
use Rattle.std.specs.List.{list_all}
use Rattle.std.specs.Str.Parse.{digits_value}
use Rattle.ks_core.specs.Names.{hex_digits, four_digits}
use Rattle.ks_core.proofs.DigitsLemmas.{length-hex_digits}

glyph_value : (upper : Bool) (d : ℕ) → d < 16 → digit_value (digit_glyph upper d) ≡ d
glyph_value true d below = grind (arith, nat_tests)
glyph_value false d below = grind (arith, nat_tests)

glyph_hex : (upper : Bool) (d : ℕ) → d < 16 → is_ascii_hexdigit (digit_glyph upper d) ≡ true
glyph_hex true d below = grind (arith, nat_tests)
glyph_hex false d below = grind (arith, nat_tests)

glyphs_value : (upper : Bool) (ds : List ℕ) → AllBelowBase 16 ds → map digit_value (map (digit_glyph upper) ds) ≡ ds
glyphs_value upper [] all = refl
glyphs_value upper (d ∷ ds) all = ap₂ (λ x xs. x ∷ xs) (glyph_value upper d all.0) (glyphs_value upper ds all.1)

glyphs_hex : (upper : Bool) (ds : List ℕ) → AllBelowBase 16 ds → list_all is_ascii_hexdigit (map (digit_glyph upper) ds) ≡ true
glyphs_hex upper [] all = refl
glyphs_hex upper (d ∷ ds) all = ap (λ b. b && list_all is_ascii_hexdigit (map (digit_glyph upper) ds)) (glyph_hex upper d all.0) ∙ glyphs_hex upper ds all.1

pub value-hex_digits : (upper : Bool) (n : ℕ) → digits_value 16 (hex_digits upper n) ≡ n
value-hex_digits upper n =
    digits_value_is 16 (hex_digits upper n) ∙ ap (number_from_digits 16) (glyphs_value upper (digits_of 16 n) (all_below_base_digits_of 16 n (lit≤ tt))) ∙ number_digits_of 16 n (lit≤ tt)

pub all_hex-hex_digits : (upper : Bool) (n : ℕ) → list_all is_ascii_hexdigit (hex_digits upper n) ≡ true
all_hex-hex_digits upper n = glyphs_hex upper (digits_of 16 n) (all_below_base_digits_of 16 n (lit≤ tt))

-- ---- how many digits
pub digits_most : (k n : ℕ) → n < 16 ^ k → length (digits_of 16 n) ≤ k
digits_most k n below = length-digits_of-le 16 k n (lit≤ tt) below

pub digits_least : (k n : ℕ) → 16 ^ k ≤ n → k < length (digits_of 16 n)
digits_least k n large =
    elim (cases_lt k (length (digits_of 16 n))) [
      | inl more ↦ more
      | inr few ↦
          let below : number_from_digits 16 (digits_of 16 n) < 16 ^ length (digits_of 16 n) = number_lt 16 (digits_of 16 n) (all_below_base_digits_of 16 n (lit≤ tt)) in
          let back = number_digits_of 16 n (lit≤ tt) in
          let grows : 16 ^ length (digits_of 16 n) ≤ 16 ^ k = pow-le-pow_right (lit< tt) few in absurd (omega (arith, below, back, grows, large))
    ]

pub some_digits : (n : ℕ) → 0 < n → 0 < length (digits_of 16 n)
some_digits n some = omega (arith, length-digits_of_step 16 n (lit≤ tt) some)

-- ---- zeros before digits
zeros_value : (m : ℕ) (ds : List ℕ) → digits_value 16 (replicate m 48 ++ ds) ≡ digits_value 16 ds
zeros_value zero ds = refl
zeros_value (suc m) ds = zeros_value m ds

zeros_hex : (m : ℕ) (ds : List ℕ) → list_all is_ascii_hexdigit ds ≡ true → list_all is_ascii_hexdigit (replicate m 48 ++ ds) ≡ true
zeros_hex zero ds h = h
zeros_hex (suc m) ds h = zeros_hex m ds h

zeros_length : (m : ℕ) → length (replicate {A = ℕ} m 48) ≡ m
zeros_length zero = refl
zeros_length (suc m) = ap suc (zeros_length m)

pub value-four_digits : (n : ℕ) → digits_value 16 (four_digits (hex_digits true n)) ≡ n
value-four_digits n = zeros_value (4 - length (hex_digits true n)) (hex_digits true n) ∙ value-hex_digits true n

pub all_hex-four_digits : (n : ℕ) → list_all is_ascii_hexdigit (four_digits (hex_digits true n)) ≡ true
all_hex-four_digits n = zeros_hex (4 - length (hex_digits true n)) (hex_digits true n) (all_hex-hex_digits true n)

pub length-four_digits : (n : ℕ) → length (four_digits (hex_digits true n)) ≡ (4 - length (digits_of 16 n)) + length (digits_of 16 n)
length-four_digits n =
    length-append (replicate (4 - length (hex_digits true n)) 48) (hex_digits true n)
    ∙ ap₂ (λ x y. x + y) (zeros_length (4 - length (hex_digits true n)) ∙ ap (λ m. 4 - m) (length-hex_digits true n)) (length-hex_digits true n)

pub four_digits-three : (n : ℕ) → length (digits_of 16 n) ≡ 3 → four_digits (hex_digits true n) ≡ 48 ∷ hex_digits true n
four_digits-three n three = ap (λ m. replicate (4 - m) 48 ++ hex_digits true n) (length-hex_digits true n ∙ three)

pub four_digits-more : (n : ℕ) → 4 ≤ length (digits_of 16 n) → four_digits (hex_digits true n) ≡ hex_digits true n
four_digits-more n more =
    let none : 4 - length (hex_digits true n) ≡ 0 = omega (arith, length-hex_digits true n, more) in ap (λ m. replicate m 48 ++ hex_digits true n) none
