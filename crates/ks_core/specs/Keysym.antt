-- Which keysyms are letters in lower and upper case, and which are a keypad's.
use Rattle.std.specs.Prelude.{ℕ, ◌+◌, Bool, ◌&&◌, ◌||◌, List, [], ◌∷◌, nat_eq, nat_lt, nat_le}
use Rattle.std.specs.List.{list_any}
use Rattle.ks_core.specs.declared.letters.LetterRow.{LetterRow}

-- letters in a row, each in lower case against the same in upper case: the first of each, and how many
abbrev pub letters : ℕ → ℕ → ℕ → LetterRow
letters lower upper count = record { lower = lower; upper = upper; count = count }

-- a to z; à to ö, ø to þ; the letters of Latin-2; two rows of Cyrillic letters
unfoldable pub case_pairs : List LetterRow
case_pairs = letters 0x61 0x41 26 ∷ letters 0xe0 0xc0 23 ∷ letters 0xf8 0xd8 7 ∷ letters 0x1b1 0x1a1 1
    ∷ letters 0x1b3 0x1a3 1 ∷ letters 0x1b5 0x1a5 2 ∷ letters 0x1b9 0x1a9 4 ∷ letters 0x1be 0x1ae 2
    ∷ letters 0x1e0 0x1c0 1 ∷ letters 0x1e3 0x1c3 1 ∷ letters 0x1e5 0x1c5 2 ∷ letters 0x1e8 0x1c8 1
    ∷ letters 0x1ea 0x1ca 1 ∷ letters 0x1ec 0x1cc 1 ∷ letters 0x1ef 0x1cf 4 ∷ letters 0x1f5 0x1d5 1
    ∷ letters 0x1f8 0x1d8 2 ∷ letters 0x1fb 0x1db 1 ∷ letters 0x1fe 0x1de 1 ∷ letters 0x6c0 0x6e0 32 ∷ letters 0x1000430 0x1000410 32 ∷ []

abbrev pub is_within : ℕ → ℕ → ℕ → Bool
is_within first count k = nat_le first k && nat_lt k (first + count)

-- the further letters that a table has in each case
pub record FurtherLetters : Type 0 where
  pub lower : List ℕ
  pub upper : List ℕ

abbrev pub is_lower : FurtherLetters → ℕ → Bool
is_lower further k = list_any (λ row. is_within row.lower row.count k) case_pairs || list_any (nat_eq k) further.lower

abbrev pub is_upper : FurtherLetters → ℕ → Bool
is_upper further k = list_any (λ row. is_within row.upper row.count k) case_pairs || list_any (nat_eq k) further.upper

abbrev pub is_keypad : ℕ → Bool
is_keypad k = nat_le 0xff80 k && nat_le k 0xffbd
