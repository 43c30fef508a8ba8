-- The lengths of the keywords that begin with a letter.
use Rattle.std.specs.Prelude.{◌≡◌, ℕ, List, ◌==◌, ◌/◌, ◌%◌, ◌^◌, Bool, true, length, slice_index, bit_and}
use Rattle.std.specs.List.{list_all}
use Rattle.kx_lex.specs.Keywords.{Spelling, spellings}

-- the length is among some that are held as bits
abbrev pub has_length : ℕ → ℕ → Bool
has_length lengths n = bit_and (lengths / 2 ^ n) 1 == 1

-- each keyword's length is among those of its letter, which its first byte gives in capital letters or small
pub record AreLengths (table : List ℕ) : Type 0 where
  pub long : length table ≡ 32
  pub each : list_all {X = Spelling} (λ s. has_length (slice_index table (slice_index s.0 0 % 32)) (length s.0)) spellings ≡ true
