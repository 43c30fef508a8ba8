-- Tables of records of one size.
use Rattle.std.specs.Prelude.{ℕ, zero, suc, List, [], ◌∷◌, ◌+◌, ◌*◌}
use Rattle.kx_tables.specs.Content.{part}

-- the rows that so many records of this size tell, from a place of the bytes on
abbrev pub rows_at : {X : Type 0} → (List ℕ → X) → ℕ → ℕ → ℕ → List ℕ → List X
rows_at of size zero start s = []
rows_at of size (suc n) start s = of (part s start size) ∷ rows_at of size n (start + size) s

-- the bytes of the record at an index
abbrev pub record_at : List ℕ → ℕ → ℕ → ℕ → List ℕ
record_at s start size i = part s (start + size * i) size
