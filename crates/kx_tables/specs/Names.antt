-- Numbered names, no two of which are the same.
use Rattle.std.specs.Prelude.{ℕ, List, ◌≡◌, ◌≢◌, ◌<◌}

-- the names numbered below count differ
abbrev pub NamesDiffer : (ℕ → List ℕ) → ℕ → Type 0
NamesDiffer name count = (i j : ℕ) → i < j → j < count → name i ≢ name j

-- the name numbered j is one of those before it
pub record IsRepeated (name : ℕ → List ℕ) (count j : ℕ) : Type 0 where
  pub below : j < count
  pub earlier : ℕ
  pub before : earlier < j
  pub same : name earlier ≡ name j
