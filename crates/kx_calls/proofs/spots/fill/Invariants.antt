use Rattle.std.proofs.Common.{◌≡◌, ◌++◌, drop, length, map, take}
use Rattle.kx_calls.specs.SpotsInC.{spot_in_c}
use Rattle.kx_calls.proofs.spots.fill.Given as goal

abbrev pub invariant-loop-index : goal.invariant-loop-index
invariant-loop-index l = record {
  long : length l.out ≡ length l.fn.out;
  filled : l.out ≡ map spot_in_c (take l.index l.fn.found) ++ drop l.index l.fn.out;
}
