-- Numbers in a list that rise.
use Rattle.std.specs.Prelude.{ℕ, ◌≤◌, ◌<◌, List, length, get_or}

-- none is less than one before it
pub record IsRising (numbers : List ℕ) : Type 0 where
  pub rises : (i j : ℕ) → i ≤ j → j < length numbers → get_or numbers i 0 ≤ get_or numbers j 0
