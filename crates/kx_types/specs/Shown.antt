-- What is seen of a type by its name.
use Rattle.std.specs.Prelude.{ℕ, List, Option}
use Rattle.kx_merge.specs.declared.single.Single.{Single}
use Rattle.kx_types.specs.KeyTypes.{Definition}

abbrev pub shown_entry : List ℕ × Single Definition → List ℕ × Option Definition
shown_entry e = (e.0, e.1.value)
