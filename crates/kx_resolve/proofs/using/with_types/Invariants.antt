use Rattle.std.proofs.Common.{◌≡◌, All, [], map, take}
use Rattle.kx_resolve.specs.Read.{TypeHoldsIn, type_in}
use Rattle.kx_resolve.proofs.using.with_types.Given as goal

abbrev pub invariant-names : goal.invariant-names
invariant-names l = (l.builder ≡ record { types = map (type_in l.read) (take l.number l.used); keys = [] }) × All (TypeHoldsIn l.read) (take l.number l.used)
