-- What character a keysym gives: by its number in Unicode.
use Rattle.std.specs.Prelude.{ℕ, ◌-◌, Bool, ◌||◌, nat_eq, Option, None, Some, cond}
use Rattle.std.specs.Int.{is_in_range}
use Rattle.std.specs.Map.{lookup}
use Rattle.kx_text.specs.OlderCharacters.{older_characters}

-- a number from 0x20 to 0x7e or from 0xa0 to 0xff is the keysym of its character
abbrev pub is_latin : ℕ → Bool
is_latin number = is_in_range 0x20 0x7e number || is_in_range 0xa0 0xff number

-- from U+0001 on a character and 0x1000000 are a keysym
abbrev pub is_unicode : ℕ → Bool
is_unicode keysym = is_in_range 0x1000001 0x110ffff keysym

-- the character of a number; a surrogate is none
abbrev pub scalar_of : ℕ → Option ℕ
scalar_of number = cond (is_in_range 0xd800 0xdfff number) None (Some number)

-- the character of a keysym that is neither: a row's
abbrev pub older_character : ℕ → Option ℕ
older_character keysym = lookup (nat_eq keysym) older_characters

abbrev pub character_of : ℕ → Option ℕ
character_of keysym = cond (is_latin keysym) (Some keysym) (cond (is_unicode keysym) (scalar_of (keysym - 0x1000000)) (older_character keysym))

-- the same with surrogates
abbrev pub code_point_of : ℕ → Option ℕ
code_point_of keysym = cond (is_latin keysym) (Some keysym) (cond (is_unicode keysym) (Some (keysym - 0x1000000)) (older_character keysym))
