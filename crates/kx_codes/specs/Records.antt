-- What a record of an alias shows.
use Rattle.std.specs.Prelude.{ℕ, List, Option}
use Rattle.kx_merge.specs.declared.single.Single.{Single}

abbrev pub shown_alias : List ℕ × Single (List ℕ) → List ℕ × Option (List ℕ)
shown_alias e = (e.0, e.1.value)
