use Rattle.std.proofs.Common.{take}
use Rattle.std.specs.List.{flat_map}
use Rattle.ks_core.specs.BufferedOut.{Writes}
use Rattle.kx_print.specs.Printed.{indicator_block}
use Rattle.kx_print.proofs.indicators.write_each_indicator.Given as goal

abbrev pub invariant-loop-index : goal.invariant-loop-index
invariant-loop-index g l = Writes g.O.Out.written g.O.Out.failures l.fn.out l.fn.buffered l.out l.buffered (flat_map (indicator_block (g.T.Rows.content l.tables)) (take l.index (g.T.Rows.content l.tables).indicators))
