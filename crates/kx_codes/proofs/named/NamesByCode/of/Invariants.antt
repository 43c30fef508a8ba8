use Rattle.std.proofs.Common.{List, take}
use Rattle.kx_codes.specs.Indexed.{Stands, both}
use Rattle.kx_codes.specs.Numbers.{AreNumbered, StandsIn}
use Rattle.kx_codes.specs.Pairs.{Pair}
use Rattle.kx_codes.proofs.named.NamesByCode.of.Given as goal

abbrev pub invariant-pairs : goal.invariant-pairs
invariant-pairs l = (ps : List Pair) → StandsIn l.names l.pairs ps → (ns : List Pair) × AreNumbered l.names (take l.place l.pairs.by_code) ns × Stands (both l.by_code) ns
