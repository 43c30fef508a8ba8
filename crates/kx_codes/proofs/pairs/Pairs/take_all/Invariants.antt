use Rattle.std.proofs.Common.{List, take}
use Rattle.kx_codes.specs.Indexed.{Stands}
use Rattle.kx_codes.specs.Pairs.{Pair, all_taken}
use Rattle.kx_codes.proofs.pairs.Pairs.take_all.Given as goal

abbrev pub invariant-given : goal.invariant-given
invariant-given l = (ps : List Pair) → Stands l.initial.self ps → Stands l.self (all_taken l.mode ps (take l.place l.given.by_code))
