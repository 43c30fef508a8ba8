use Rattle.std.proofs.Common.{List, ℕ, codes, map}
use Rattle.kx_lines.specs.Answer.{lit_name}
use Rattle.kx_print.proofs.Chosen.{ChosenSoFar}
use Rattle.kx_print.proofs.Listing.{Listed}
use Rattle.kx_lines.proofs.listing.write_lit_names.Given as goal

abbrev pub invariant-loop-index : goal.invariant-loop-index
invariant-loop-index g l =
    (done : List (List ℕ)) × ChosenSoFar l.lit l.bits (map (lit_name (g.T.Rows.content l.tables)) (g.T.Rows.content l.tables).indicators) l.index done
    × Listed g.O.Out.written g.O.Out.failures (codes ",") l.fn.out l.out l.fn.buffered l.buffered l.before done
