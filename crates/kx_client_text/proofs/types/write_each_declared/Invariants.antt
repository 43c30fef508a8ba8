use Rattle.std.proofs.Common.{take}
use Rattle.std.specs.List.{flat_map}
use Rattle.ks_core.specs.BufferedOut.{Writes}
use Rattle.kx_client_text.specs.Written.{declared_block}
use Rattle.kx_client_text.proofs.types.write_each_declared.Given as goal

abbrev pub invariant-types : goal.invariant-types
invariant-types g l = Writes g.O.Out.written g.O.Out.failures l.fn.out l.fn.buffered l.out l.buffered (flat_map declared_block (take l.declared-index l.types))
