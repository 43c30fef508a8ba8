use Rattle.std.specs.List.{flat_map, range_with_len}
use Rattle.ks_core.specs.BufferedOut.{Writes}
use Rattle.kx_tool.specs.Dump.{row_at, row_text}
use Rattle.kx_tool.proofs.dumping.write_rows.Given as goal

abbrev pub invariant-loop-index : goal.invariant-loop-index
invariant-loop-index g l =
    Writes g.O.Out.written g.O.Out.failures l.fn.out l.fn.buffered l.out l.buffered (flat_map (λ i. row_text (row_at l.bytes i)) (range_with_len 0 l.index))
