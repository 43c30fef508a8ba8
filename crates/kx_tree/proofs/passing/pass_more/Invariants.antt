use Rattle.std.proofs.Common.{List, ℕ, ◌≤◌, length}
use Rattle.kx_lex.specs.Passing.{IsAtToken, Passes}
use Rattle.kx_tree.specs.Passing.{more}
use Rattle.kx_tree.proofs.passing.pass_more.Given as goal

abbrev pub invariant-more : goal.invariant-more
invariant-more g l = ((end : List ℕ) → Passes (more g.P.Passed.production) l.rest end → Passes (more g.P.Passed.production) l.bytes end) × (length l.rest ≤ length l.bytes) × IsAtToken l.rest

abbrev pub decreases-more : goal.decreases-more
decreases-more g l = length l.rest
