use Rattle.std.proofs.Common.{take}
use Rattle.ks_core.specs.BufferedOut.{Writes}
use Rattle.kx_print.specs.Phrases.{numbered}
use Rattle.kx_client_text.specs.Written.{indicator_line}
use Rattle.kx_client_text.proofs.keycodes.write_indicator_names.Given as goal

abbrev pub invariant-names : goal.invariant-names
invariant-names g l = Writes g.O.Out.written g.O.Out.failures l.fn.out l.fn.buffered l.out l.buffered (numbered indicator_line 1 (take l.index l.left.indicators))
