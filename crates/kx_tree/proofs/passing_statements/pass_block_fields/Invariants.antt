use Rattle.std.proofs.Common.{List, ℕ, ◌≤◌, length}
use Rattle.kx_lex.specs.Passing.{IsAtToken, Passes}
use Rattle.kx_tree.specs.Passing.{block_fields}
use Rattle.kx_tree.proofs.passing_statements.pass_block_fields.Given as goal

abbrev pub invariant-fields : goal.invariant-fields
invariant-fields l = ((end : List ℕ) → Passes block_fields l.rest end → Passes block_fields l.bytes end) × (length l.rest ≤ length l.bytes) × IsAtToken l.rest

abbrev pub decreases-fields : goal.decreases-fields
decreases-fields l = length l.rest
