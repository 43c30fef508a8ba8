use Rattle.std.proofs.Common.{List, ℕ, ◌+◌, ◌≤◌, length}
use Rattle.kx_lex.specs.Passing.{IsAtToken}
use Rattle.kx_parse.specs.Outline.{PassesDeep}
use Rattle.kx_parse.proofs.outline.pass_geometry.Given as goal

abbrev pub invariant-tokens : goal.invariant-tokens
invariant-tokens l = record {
  passes : (end : List ℕ) → PassesDeep l.depth l.rest end → PassesDeep 0 l.bytes end;
  within : l.depth + length l.rest ≤ length l.bytes;
  at : IsAtToken l.rest;
}

abbrev pub decreases-tokens : goal.decreases-tokens
decreases-tokens l = length l.rest
