use Rattle.std.proofs.Common.{length}
use Rattle.kx_lex.proofs.Rounds.{SoFar}
use Rattle.kx_lex.proofs.repeated.read_behind.Given as goal

abbrev pub invariant-items : goal.invariant-items
invariant-items g l = SoFar (g.R.Repeated.test l.text) (g.R.Repeated.reading l.text) l.initial.items.items l.tokens l.rest l.items.items

abbrev pub decreases-items : goal.decreases-items
decreases-items g l = length l.rest
