use Rattle.std.proofs.Common.{◌≡◌, ◌++◌, List, ℕ, map}
use Rattle.kx_basics.specs.declared.limits.TheConstants.{CODES}
use Rattle.kx_resolve.specs.NamedKeys.{names_used}
use Rattle.kx_resolve.specs.Read.{KeepBoundsBelow, keys_read, typing_read}
use Rattle.kx_resolve.specs.TypesInUse.{type_in_use}
use Rattle.kx_resolve.proofs.keys.push_keys.Given as goal

abbrev pub invariant-codes : goal.invariant-codes
invariant-codes l =
    (l.builder ≡ record l.fn.builder { keys = keys_read l.read l.used.names l.code })
    × KeepBoundsBelow l.read l.code
    × ((ns : List (List ℕ)) × (l.group_types ≡ map (type_in_use (typing_read l.read) l.used.names) ns) × (names_used l.read.keys.named l.code ++ ns ≡ names_used l.read.keys.named CODES))
