-- What becomes of the types in use by the types of more groups.
use Rattle.std.specs.Prelude.{ℕ, List, ◌++◌}
use Rattle.kx_resolve.specs.TypesInUse.{AreUsed}
use Rattle.kx_keys.specs.Typing.{Typing}
use Rattle.kx_resolve.specs.declared.types_in_use.UsedTypes.{UsedTypes}

-- those of these names are added
abbrev pub Adds : Typing → List (List ℕ) → UsedTypes → UsedTypes → Type 0
Adds typing more old new = (names : List (List ℕ)) → AreUsed typing names old.names old.group_types.items → AreUsed typing (names ++ more) new.names new.group_types.items
