use Rattle.std.proofs.Common.{codes, map, take}
use Rattle.ks_core.specs.Names.{name_of_keysym}
use Rattle.kx_print.proofs.Listing.{Listed}
use Rattle.kx_lines.proofs.listing.write_keysym_names.Given as goal

abbrev pub invariant-loop-keysym : goal.invariant-loop-keysym
invariant-loop-keysym g l =
    Listed g.O.Out.written g.O.Out.failures (codes ",") l.fn.out l.out l.fn.buffered l.buffered l.before (map (name_of_keysym l.names) (take l.keysym-index l.keysyms))
