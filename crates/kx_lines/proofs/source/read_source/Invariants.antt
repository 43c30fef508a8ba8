use Rattle.std.proofs.Common.{◌≡◌, ◌+◌}
use Rattle.kx_lines.specs.Input.{budget, coming}
use Rattle.kx_lines.proofs.ReadingSources.{SourceSoFar}
use Rattle.kx_lines.proofs.source.read_source.Given as goal

abbrev pub invariant-loop-byte : goal.invariant-loop-byte
invariant-loop-byte g l = record {
  read : SourceSoFar (coming l.fn.input (g.F.Feed.left l.fn.feed)) (budget l.fn.input) (coming l.input (g.F.Feed.left l.feed)) (budget l.input) l.text.items l.line_start;
  counted : g.F.Feed.failures l.feed ≡ g.F.Feed.failures l.fn.feed;
  taken : g.F.Feed.taken l.feed + l.input.allowance ≡ g.F.Feed.taken l.fn.feed + l.fn.input.allowance;
}

abbrev pub decreases-loop-byte : goal.decreases-loop-byte
decreases-loop-byte g l = budget l.input
