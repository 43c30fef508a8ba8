-- What names are made of.
use Rattle.std.proofs.Common.{◌≡◌, ℕ, zero, suc, ◌<◌, ◌≤◌, true, ◌&&◌, not, nat_le, List, [], ◌∷◌, length, slice_index, arith, lit<}
use Rattle.std.proofs.lemmas.Bool.{and_parts, leb-true}
use Rattle.std.proofs.lemmas.Str.{IsUtf8-from_ascii}
use Rattle.std.proofs.lemmas.Bool.Decides.{nat_tests}
use Rattle.std.specs.Char.{digit_value, is_ascii_hexdigit}
use Rattle.std.specs.List.{list_all}
use Rattle.std.specs.Str.{IsUtf8}
use Rattle.std.specs.Str.Parse.{AllDigits}
use Rattle.ks_core.specs.Lines.{is_given_name}
use Rattle.ks_core.specs.Name.{is_word, is_word_start, is_word_byte, is_hex, is_u_form}

hex_value : (c : ℕ) → is_ascii_hexdigit c ≡ true → digit_value c < 16
hex_value c h = grind (arith, nat_tests)

pub AllDigits-hex : (ds : List ℕ) → list_all is_ascii_hexdigit ds ≡ true → AllDigits 16 ds
AllDigits-hex [] h = tt
AllDigits-hex (c ∷ cs) h = let parts = and_parts (is_ascii_hexdigit c) (list_all is_ascii_hexdigit cs) h in (hex_value c parts.0, AllDigits-hex cs parts.1)

pub AllDigits-is_hex : (most : ℕ) (ds : List ℕ) → is_hex most ds ≡ true → AllDigits 16 ds
unfolding is_hex
AllDigits-is_hex most ds h = AllDigits-hex ds (and_parts (nat_le 1 (length ds) && nat_le (length ds) most) (list_all is_ascii_hexdigit ds) h).1

word_byte-ascii : (c : ℕ) → is_word_byte c ≡ true → c < 128
word_byte-ascii c h = grind (arith, nat_tests)

ascii-from_word_bytes : (bs : List ℕ) → list_all is_word_byte bs ≡ true → (i : ℕ) → slice_index bs i < 128
ascii-from_word_bytes [] h i = lit< tt
ascii-from_word_bytes (b ∷ bs) h zero = word_byte-ascii b (and_parts (is_word_byte b) (list_all is_word_byte bs) h).0
ascii-from_word_bytes (b ∷ bs) h (suc i) = ascii-from_word_bytes bs (and_parts (is_word_byte b) (list_all is_word_byte bs) h).1 i

pub IsUtf8-word : (name : List ℕ) → is_word name ≡ true → IsUtf8 name
unfolding is_word
IsUtf8-word name h = IsUtf8-from_ascii name (ascii-from_word_bytes name (and_parts (is_word_start (slice_index name 0)) (list_all is_word_byte name) h).1)

pub is_word-given : (name : List ℕ) → is_given_name name ≡ true → is_word name ≡ true
unfolding is_given_name
is_word-given name h = (and_parts (is_word name) (nat_le (length name) 63) (and_parts (is_word name && nat_le (length name) 63) (not (is_u_form name)) h).0).0

pub length-is_hex : (most : ℕ) (ds : List ℕ) → is_hex most ds ≡ true → length ds ≤ most
unfolding is_hex
length-is_hex most ds h =
    leb-true (length ds) most (and_parts (nat_le 1 (length ds)) (nat_le (length ds) most) (and_parts (nat_le 1 (length ds) && nat_le (length ds) most) (list_all is_ascii_hexdigit ds) h).0).1
