-- Which keysym stands for a character.
use Rattle.std.specs.Prelude.{ℕ, ◌+◌, ◌%◌, Bool, true, false, ◌||◌, nat_eq, nat_le, nat_lt, List, [], ◌∷◌, Option, None, Some, cond, map}
use Rattle.std.specs.Int.{is_in_range}
use Rattle.std.specs.Map.{lookup}
use Rattle.std.specs.Option.{option_or}
use Rattle.kx_text.specs.Characters.{is_latin}
use Rattle.kx_text.specs.OlderCharacters.{older_characters}

-- the first older keysym that gives a character
abbrev pub flipped : ℕ × ℕ → ℕ × ℕ
flipped row = (row.1, row.0)

abbrev pub older_keysym : ℕ → Option ℕ
older_keysym character = lookup (nat_eq character) (map flipped older_characters)

-- code points that Unicode keeps from being characters
abbrev pub is_noncharacter : ℕ → Bool
is_noncharacter number = is_in_range 0xfdd0 0xfdef number || nat_le 0xfffe (number % 0x10000)

abbrev pub keysym_of : ℕ → Option ℕ
keysym_of number =
    cond (is_latin number) (Some number)
    (cond (nat_lt 0x10ffff number || is_noncharacter number) None (option_or (older_keysym number) (Some (0x1000000 + number))))

-- ---- A table in which a character is searched

-- puts a row where its number stands in rows that rise, in the place of one of the same number
unfoldable pub put : ℕ × ℕ → List (ℕ × ℕ) → List (ℕ × ℕ)
put row [] = row ∷ []
put row (next ∷ rows) =
    elim (nat_lt next.0 row.0) [
      | true ↦ next ∷ put row rows
      | false ↦ elim (nat_eq row.0 next.0) [ true ↦ row ∷ rows | false ↦ row ∷ next ∷ rows ]
    ]

-- each number once, by number, with what the first row has for it
unfoldable pub by_number : List (ℕ × ℕ) → List (ℕ × ℕ)
by_number [] = []
by_number (row ∷ rows) = put row (by_number rows)

unfoldable pub by_character : List (ℕ × ℕ)
unfolding older_characters put by_number
by_character = by_number (map flipped older_characters)
