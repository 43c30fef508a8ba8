-- The kinds of bytes in keymap text, as the text format v1 of libxkbcommon has them. Letters are ASCII letters.
use Rattle.std.specs.Prelude.{ℕ, All, List, Bool, ◌==◌, nat_le, ◌&&◌, ◌||◌, not, codes}
use Rattle.std.specs.Char.{is_ascii_alphabetic, is_ascii_alphanumeric}
use Rattle.std.specs.List.{list_any}
use Rattle.kx_basics.specs.KeyNames.{IsKeyByte}

-- a letter or an underscore
abbrev pub is_word_start : ℕ → Bool
is_word_start b = is_ascii_alphabetic b || (b == 95)

-- a letter, a digit or an underscore
abbrev pub is_word_byte : ℕ → Bool
is_word_byte b = is_ascii_alphanumeric b || (b == 95)

-- a space, or tab, line feed, vertical tab, form feed, carriage return
abbrev pub is_blank : ℕ → Bool
is_blank b = (b == 32) || (nat_le 9 b && nat_le b 13)

-- one of { } [ ] ( ) ; , . = + - * / ! ~
abbrev pub is_mark : ℕ → Bool
is_mark b = list_any (λ m. m == b) (codes "{}[]();,.=+-*/!~")

abbrev pub AreKeyBytes : List ℕ → Type 0
AreKeyBytes bytes = All IsKeyByte bytes

abbrev pub is_not_line_feed : ℕ → Bool
is_not_line_feed b = not (b == 10)
