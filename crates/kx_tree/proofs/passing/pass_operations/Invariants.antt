use Rattle.std.proofs.Common.{List, ℕ, ◌≤◌, length}
use Rattle.kx_lex.specs.Passing.{IsAtToken, Passes}
use Rattle.kx_tree.specs.Passing.{operations}
use Rattle.kx_tree.proofs.passing.pass_operations.Given as goal

abbrev pub invariant-terms : goal.invariant-terms
invariant-terms l = ((end : List ℕ) → Passes operations l.rest end → Passes operations l.bytes end) × (length l.rest ≤ length l.bytes) × IsAtToken l.rest

abbrev pub decreases-terms : goal.decreases-terms
decreases-terms l = length l.rest
