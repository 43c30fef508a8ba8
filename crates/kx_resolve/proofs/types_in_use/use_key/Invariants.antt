use Rattle.std.proofs.Common.{List, ℕ, ◌++◌}
use Rattle.kx_keys.specs.Given.{given}
use Rattle.kx_keys.specs.Keys.{type_names}
use Rattle.kx_resolve.specs.TypesInUse.{AreUsed}
use Rattle.kx_keys.specs.Typing.{typing_of}
use Rattle.kx_resolve.proofs.types_in_use.use_key.Given as goal

abbrev pub invariant-groups : goal.invariant-groups
invariant-groups l = (names : List (List ℕ)) → AreUsed (typing_of l.typing) names l.fn.used.names l.fn.used.group_types.items → AreUsed (typing_of l.typing) (names ++ type_names (typing_of l.typing) (given l.key) l.group) l.used.names l.used.group_types.items
