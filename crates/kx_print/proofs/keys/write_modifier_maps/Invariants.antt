use Rattle.std.proofs.Common.{take}
use Rattle.std.specs.List.{flat_map}
use Rattle.ks_core.specs.BufferedOut.{Writes}
use Rattle.kx_print.specs.Printed.{modifier_map_lines}
use Rattle.kx_print.proofs.keys.write_modifier_maps.Given as goal

abbrev pub invariant-loop-index : goal.invariant-loop-index
invariant-loop-index g l = Writes g.O.Out.written g.O.Out.failures l.fn.out l.fn.buffered l.out l.buffered (flat_map (modifier_map_lines (g.T.Rows.content l.tables)) (take l.index (g.T.Rows.content l.tables).keys))
