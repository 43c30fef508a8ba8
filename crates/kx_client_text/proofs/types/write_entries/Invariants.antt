use Rattle.std.proofs.Common.{take}
use Rattle.std.specs.List.{flat_map}
use Rattle.ks_core.specs.BufferedOut.{Writes}
use Rattle.kx_print.specs.Printed.{entry_lines}
use Rattle.kx_client_text.proofs.types.write_entries.Given as goal

abbrev pub invariant-entries : goal.invariant-entries
invariant-entries g l = Writes g.O.Out.written g.O.Out.failures l.fn.out l.fn.buffered l.out l.buffered (flat_map entry_lines (take l.index l.entries))
