use Rattle.std.proofs.Common.{◌≡◌, ◌+◌}
use Rattle.kx_lines.specs.Input.{budget, coming}
use Rattle.kx_tool.proofs.Ends.{AnsweredSoFar}
use Rattle.kx_tool.proofs.replaying.answer_lines.Given as goal

abbrev pub invariant-lines : goal.invariant-lines
invariant-lines g l = record {
  answered : AnsweredSoFar g.O.Out.written g.O.Out.failures (g.T.Rows.content l.fn.tables) l.names (coming l.fn.input (g.F.Feed.left l.fn.feed)) (budget l.fn.input) (coming l.input (g.F.Feed.left l.feed)) (budget l.input) l.fn.out l.out l.buffered l.line l.player l.number;
  counted : g.F.Feed.failures l.feed ≡ g.F.Feed.failures l.fn.feed;
  taken : g.F.Feed.taken l.feed + l.input.allowance ≡ g.F.Feed.taken l.fn.feed + l.fn.input.allowance;
}

abbrev pub decreases-lines : goal.decreases-lines
decreases-lines g l = budget l.input
