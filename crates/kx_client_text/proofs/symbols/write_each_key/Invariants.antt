use Rattle.std.proofs.Common.{take}
use Rattle.std.specs.List.{flat_map}
use Rattle.ks_core.specs.BufferedOut.{Writes}
use Rattle.kx_client_text.specs.Written.{key_text}
use Rattle.kx_client_text.proofs.symbols.write_each_key.Given as goal

abbrev pub invariant-loop-index : goal.invariant-loop-index
invariant-loop-index g l = Writes g.O.Out.written g.O.Out.failures l.fn.out l.fn.buffered l.out l.buffered (flat_map (key_text (g.T.Rows.content l.tables) l.left) (take l.index (g.T.Rows.content l.tables).keys))
