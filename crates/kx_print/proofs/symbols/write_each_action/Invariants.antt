use Rattle.std.proofs.Common.{codes, map, take}
use Rattle.kx_print.proofs.Listing.{Listed}
use Rattle.kx_tables.specs.Content.{part}
use Rattle.kx_print.specs.Printed.{cell_action}
use Rattle.kx_print.proofs.symbols.write_each_action.Given as goal

abbrev pub invariant-loop-level : goal.invariant-loop-level
invariant-loop-level g l =
    Listed g.O.Out.written g.O.Out.failures (codes ", ") l.fn.out l.out l.fn.buffered l.buffered l.before (map cell_action (take l.level (part (g.T.Rows.content l.tables).cells l.cells.first l.cells.count)))
