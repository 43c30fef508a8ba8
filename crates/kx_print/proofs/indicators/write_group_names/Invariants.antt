use Rattle.std.proofs.Common.{take}
use Rattle.ks_core.specs.BufferedOut.{Writes}
use Rattle.kx_print.specs.Phrases.{numbered}
use Rattle.kx_print.specs.Printed.{group_name_line}
use Rattle.kx_print.proofs.indicators.write_group_names.Given as goal

abbrev pub invariant-loop-index : goal.invariant-loop-index
invariant-loop-index g l = Writes g.O.Out.written g.O.Out.failures l.fn.out l.fn.buffered l.out l.buffered (numbered (group_name_line (g.T.Rows.content l.tables)) 1 (take l.index (g.T.Rows.content l.tables).group_names))
