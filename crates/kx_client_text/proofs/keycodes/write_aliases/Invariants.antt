use Rattle.std.proofs.Common.{take}
use Rattle.std.specs.List.{flat_map}
use Rattle.ks_core.specs.BufferedOut.{Writes}
use Rattle.kx_client_text.specs.Written.{alias_line}
use Rattle.kx_client_text.proofs.keycodes.write_aliases.Given as goal

abbrev pub invariant-aliases : goal.invariant-aliases
invariant-aliases g l = Writes g.O.Out.written g.O.Out.failures l.fn.out l.fn.buffered l.out l.buffered (flat_map alias_line (take l.alias-index l.aliases))
