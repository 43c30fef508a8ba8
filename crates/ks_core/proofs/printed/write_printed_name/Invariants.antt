use Rattle.std.proofs.Common.{take}
use Rattle.ks_core.specs.BufferedOut.{Writes}
use Rattle.ks_core.specs.PrintedName.{printed_name}
use Rattle.ks_core.proofs.printed.write_printed_name.Given as goal

abbrev pub invariant-loop-byte : goal.invariant-loop-byte
invariant-loop-byte g l = Writes g.O.Out.written g.O.Out.failures l.fn.out l.fn.buffered l.out l.buffered (printed_name (take l.byte-index l.name))
