-- What is read: bytes that were taken from a reader and wait, and how many more may be taken.
use Rattle.std.specs.Prelude.{◌≡◌, ◌≢◌, ◌+◌, ◌<◌, ◌≤◌, ◌⊎◌, ℕ, List, [], Option, length, IfSome}
use Rattle.std.specs.Io.KnownBytes.{Consumes, prepend_known}
use Rattle.kx_lines.specs.declared.input.TheConstants.{MOST_BYTES}

pub record Waiting : Type 0 where
  pub bytes : List ℕ
  pub allowance : ℕ

-- how many bytes may still come
abbrev pub budget : Waiting → ℕ
budget w = w.allowance + length w.bytes

-- the bytes that are still to come, where those that the reader has left are known
abbrev pub coming : Waiting → Option (List ℕ) → Option (List ℕ)
coming w left = prepend_known w.bytes left

-- bytes came, which leaves others to come
pub record Came (old : Option (List ℕ)) (old_budget : ℕ) (new : Option (List ℕ)) (new_budget : ℕ) (bytes : List ℕ) : Type 0 where
  pub consumed : Consumes old new bytes
  pub spent : old_budget ≡ length bytes + new_budget

-- the known bytes are more than may come
abbrev pub IsOver : Option (List ℕ) → ℕ → Type 0
IsOver bytes most = IfSome bytes (λ known. most < length known)

-- the known bytes are no more than may come
abbrev pub IsWithin : Option (List ℕ) → ℕ → Type 0
IsWithin bytes most = IfSome bytes (λ known. length known ≤ most)

-- as many bytes may come as a reader may give
abbrev pub nothing_read : Waiting
nothing_read = record { bytes = []; allowance = MOST_BYTES }

-- of a reader, `left` reads the bytes that it has left, where they are known, `taken` how many it gave, and `failures` its count of
-- failures
module _ {R : Type 0} (left : R → Option (List ℕ)) (taken failures : R → ℕ) where
  -- the reader failed, or gave more than so many bytes; then its known bytes are more, too
  abbrev pub FailsToRead : R → R → ℕ → Type 0
  FailsToRead old new most = (failures new ≢ failures old) ⊎ ((taken old + most < taken new) × IsOver (left old) most)

  -- the same of a reader some of whose bytes wait already
  abbrev pub FailsBehind : Waiting → R → R → Type 0
  FailsBehind w old new = (failures new ≢ failures old) ⊎ ((taken old + w.allowance < taken new) × IsOver (coming w (left old)) (budget w))
