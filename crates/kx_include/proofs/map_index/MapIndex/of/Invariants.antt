use Rattle.std.proofs.Common.{take}
use Rattle.kx_include.specs.MapIndex.{IsIndex}
use Rattle.kx_include.proofs.map_index.MapIndex.of.Given as goal

abbrev pub invariant-sections : goal.invariant-sections
invariant-sections l = IsIndex l.index (take l.number l.sections)
