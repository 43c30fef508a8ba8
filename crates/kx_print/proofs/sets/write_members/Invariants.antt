use Rattle.std.proofs.Common.{List, ℕ, codes}
use Rattle.kx_print.specs.Masks.{names_of}
use Rattle.kx_print.proofs.Chosen.{ChosenSoFar}
use Rattle.kx_print.proofs.Listing.{Listed}
use Rattle.kx_print.proofs.sets.write_members.Given as goal

abbrev pub invariant-loop-bit : goal.invariant-loop-bit
invariant-loop-bit g l =
    (done : List (List ℕ)) × ChosenSoFar l.bits l.left (names_of l.names) l.bit done
    × Listed g.O.Out.written g.O.Out.failures (codes "+") l.fn.out l.out l.fn.buffered l.buffered l.before done
