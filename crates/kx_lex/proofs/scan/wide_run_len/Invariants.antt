use Rattle.std.proofs.Common.{length}
use Rattle.kx_lex.proofs.Words.{SoFar}
use Rattle.kx_lex.proofs.scan.wide_run_len.Given as goal

abbrev pub invariant-sixteens : goal.invariant-sixteens
invariant-sixteens g l = SoFar g.R.Run.has l.bytes l.rest l.len

abbrev pub decreases-sixteens : goal.decreases-sixteens
decreases-sixteens g l = length l.rest
