-- Which keysym a name stands for, and which name is written for a keysym.
use Rattle.std.specs.Prelude.{ℕ, ◌-◌, Bool, true, false, ◌||◌, ◌==◌, List, ◌∷◌, ◌++◌, Option, length, map, replicate, unwrap_or, if◌then◌else◌}
use Rattle.std.specs.Fmt.{digit_glyph}
use Rattle.std.specs.Int.Digits.{digits_of}
use Rattle.std.specs.Option.{option_or}
use Rattle.ks_core.specs.BuiltIn.{built_in}
use Rattle.ks_core.specs.Entry.{keysym_in, name_in}
use Rattle.ks_core.specs.Name.{is_word, is_decimal, is_hex_form, is_between, u_keysym, hex_keysym}
use Rattle.ks_core.specs.Table.{KeysymTable}
use Rattle.kx_basics.specs.Keysyms.{is_keysym}

-- the keysym of a name: of the built-in one, else of another one of the table, else of the U form, else of the 0x form
unfoldable pub keysym_named : KeysymTable → List ℕ → Option ℕ
keysym_named table name = option_or (keysym_in built_in name) (option_or (keysym_in table.names name) (option_or (u_keysym name) (hex_keysym name)))

-- the hexadecimal digits of a number, without leading zeros
abbrev pub hex_digits : Bool → ℕ → List ℕ
hex_digits upper n = map (digit_glyph upper) (digits_of 16 n)

-- with zeros before them, where they are fewer than four
abbrev pub four_digits : List ℕ → List ℕ
four_digits digits = replicate (4 - length digits) 48 ++ digits

-- the name that stands for a keysym by its number: `U` and the character, else `0x` and the keysym
unfoldable pub name_of_number : ℕ → List ℕ
name_of_number keysym =
    if is_between 0x1000100 0x110ffff keysym then 85 ∷ four_digits (hex_digits true (keysym - 0x1000000))
    else 48 ∷ 120 ∷ hex_digits false keysym

-- the name of a keysym: its first one, a built-in one before the others of the table, else that of its number
unfoldable pub name_of_keysym : KeysymTable → ℕ → List ℕ
name_of_keysym table keysym = unwrap_or (option_or (name_in built_in keysym) (name_in table.names keysym)) (name_of_number keysym)

-- an identifier or a number in a keymap's text
abbrev pub is_word_or_number : List ℕ → Bool
is_word_or_number name = is_word name || is_decimal name || is_hex_form name

-- the keysyms whose written names are read back
abbrev pub is_written_back : ℕ → Bool
is_written_back keysym = (keysym == 0) || is_keysym keysym
