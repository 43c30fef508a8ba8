-- What a call of a device does to its count of failures and to its bytes.
use Rattle.std.specs.Prelude.{◌≡◌, ◌≢◌, ℕ, ◌+◌, List, ◌++◌, Option, Result, MatchResult, OnOk, OnErr}
use Rattle.std.specs.Io.KnownBytes.{Appends}

-- an `Err` changes the count of failures, and an `Ok` leaves it
abbrev pub Counts : {A E : Type 0} → ℕ → ℕ → Result A E → Type 0
Counts old new r = MatchResult r (λ _. new ≡ old) (λ _. new ≢ old)

-- an `Ok` adds its number to the count of bytes taken, and an `Err` leaves it
abbrev pub Adds : {E : Type 0} → ℕ → ℕ → Result ℕ E → Type 0
Adds old new r = MatchResult r (λ n. new ≡ old + n) (λ _. new ≡ old)

-- known bytes grew by a beginning of the text
pub record Begins (old new : Option (List ℕ)) (text : List ℕ) : Type 0 where
  pub part : List ℕ
  pub rest : List ℕ
  pub parted : text ≡ part ++ rest
  pub put : Appends old new part

-- A whole text was put to a device, or the device failed after a beginning of it.
-- `written` and `failures` read the bytes that the device holds, where they are known, and its count of failures.
pub record Puts {D A E : Type 0} (written : D → Option (List ℕ)) (failures : D → ℕ) (old new : D) (r : Result A E) (text : List ℕ) : Type 0 where
  pub all : OnOk r (Appends (written old) (written new) text)
  pub begun : OnErr r (Begins (written old) (written new) text)
  pub counted : Counts (failures old) (failures new) r
