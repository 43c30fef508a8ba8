-- Rows whose parts stand one after the other.
use Rattle.std.specs.Prelude.{ℕ, List, [], ◌∷◌, ◌+◌, ◌≡◌}

-- from a place on, each part begins where the one before it ends
abbrev pub AreJoined : {R : Type 0} → (R → ℕ) → (R → ℕ) → ℕ → List R → Type 0
AreJoined first count at [] = Unit {0}
AreJoined first count at (r ∷ rs) = (first r ≡ at) × AreJoined first count (at + count r) rs
