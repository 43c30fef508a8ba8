use Rattle.std.proofs.Common.{codes, map, take}
use Rattle.kx_print.proofs.Listing.{Listed}
use Rattle.kx_tables.specs.Content.{part}
use Rattle.kx_print.specs.Printed.{keysym_text}
use Rattle.kx_print.proofs.symbols.write_keysyms.Given as goal

abbrev pub invariant-loop-index : goal.invariant-loop-index
invariant-loop-index g l =
    Listed g.O.Out.written g.O.Out.failures (codes ", ") l.fn.out l.out l.fn.buffered l.buffered l.before (map keysym_text (take l.index (part (g.T.Rows.content l.tables).keysyms l.cell.first_keysym l.cell.keysyms)))
