use Rattle.std.proofs.Common.{codes, map, take}
use Rattle.kx_print.proofs.Listing.{Listed}
use Rattle.kx_print.specs.Phrases.{numbered}
use Rattle.kx_print.specs.Printed.{group_fields, groups_of, on_new_line}
use Rattle.kx_print.proofs.fields.write_groups.Given as goal

abbrev pub invariant-loop-index : goal.invariant-loop-index
invariant-loop-index g l =
    Listed g.O.Out.written g.O.Out.failures (codes ",") l.fn.out l.out l.fn.buffered l.buffered l.before (map on_new_line (numbered (group_fields (g.T.Rows.content l.tables)) 1 (take l.index (groups_of (g.T.Rows.content l.tables) l.key))))
