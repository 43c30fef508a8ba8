use Rattle.std.proofs.Common.{length}
use Rattle.kx_lex.proofs.Words.{SoFar}
use Rattle.kx_lex.proofs.scan.run_len.Given as goal

abbrev pub invariant-fours : goal.invariant-fours
invariant-fours g l = SoFar g.R.Run.has l.bytes l.rest l.len

abbrev pub decreases-fours : goal.decreases-fours
decreases-fours g l = length l.rest
