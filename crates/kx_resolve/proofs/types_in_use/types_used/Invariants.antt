use Rattle.kx_resolve.specs.NamedKeys.{names_used, typing_in}
use Rattle.kx_resolve.specs.TypesInUse.{AreUsed}
use Rattle.kx_resolve.proofs.types_in_use.types_used.Given as goal

abbrev pub invariant-codes : goal.invariant-codes
invariant-codes l = AreUsed (typing_in l.keys) (names_used l.keys l.code) l.used.names l.used.group_types.items
