-- What names look like, and the names that stand for a number by themselves.
use Rattle.std.specs.Prelude.{ℕ, ◌+◌, Bool, ◌&&◌, ◌||◌, ◌==◌, List, Option, None, Some, drop, length, nat_le, slice_index, if◌then◌else◌}
use Rattle.std.specs.Char.{is_ascii_alphabetic, is_ascii_digit, is_ascii_hexdigit}
use Rattle.std.specs.List.{list_all}
use Rattle.std.specs.Str.Parse.{digits_value}
use Rattle.kx_basics.specs.Keysyms.{is_keysym}

-- a letter or `_`
abbrev pub is_word_start : ℕ → Bool
is_word_start c = is_ascii_alphabetic c || (c == 95)

abbrev pub is_word_byte : ℕ → Bool
is_word_byte c = is_word_start c || is_ascii_digit c

-- letters, digits and `_`, of which the first is no digit
unfoldable pub is_word : List ℕ → Bool
is_word name = is_word_start (slice_index name 0) && list_all is_word_byte name

-- 1 to `most` hexadecimal digits
unfoldable pub is_hex : ℕ → List ℕ → Bool
is_hex most digits = nat_le 1 (length digits) && nat_le (length digits) most && list_all is_ascii_hexdigit digits

-- `U` and 1 to 6 hexadecimal digits
unfoldable pub is_u_form : List ℕ → Bool
is_u_form name = (slice_index name 0 == 85) && is_hex 6 (drop 1 name)

-- `0x` and 1 to 8 hexadecimal digits
unfoldable pub is_hex_form : List ℕ → Bool
is_hex_form name = (slice_index name 0 == 48) && (slice_index name 1 == 120) && is_hex 8 (drop 2 name)

-- 1 or more decimal digits
unfoldable pub is_decimal : List ℕ → Bool
is_decimal text = nat_le 1 (length text) && list_all is_ascii_digit text

abbrev pub is_between : ℕ → ℕ → ℕ → Bool
is_between first last n = nat_le first n && nat_le n last

-- the keysym of a character: itself in ASCII and Latin-1, and above them 0x1000000 and the character
abbrev pub keysym_of_character : ℕ → Option ℕ
keysym_of_character c =
    if is_between 0x20 0x7e c || is_between 0xa0 0xff c then Some c
    else if is_between 0x100 0x10ffff c then Some (0x1000000 + c) else None

-- the keysym of a name of the U form
unfoldable pub u_keysym : List ℕ → Option ℕ
u_keysym name = if is_u_form name then keysym_of_character (digits_value 16 (drop 1 name)) else None

-- the keysym of a name of the 0x form
unfoldable pub hex_keysym : List ℕ → Option ℕ
hex_keysym name = let keysym = digits_value 16 (drop 2 name) in if is_hex_form name && is_keysym keysym then Some keysym else None
