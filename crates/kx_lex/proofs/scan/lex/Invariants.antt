use Rattle.std.proofs.Common.{length}
use Rattle.kx_lex.proofs.Readings.{SoFar}
use Rattle.kx_lex.proofs.scan.lex.Given as goal

abbrev pub invariant-pieces : goal.invariant-pieces
invariant-pieces l = SoFar l.text l.rest l.offset l.tokens.items

abbrev pub decreases-pieces : goal.decreases-pieces
decreases-pieces l = length l.rest
