use Rattle.std.proofs.Common.{List, ℕ, ◌≤◌, ◌++◌, length}
use Rattle.kx_lex.specs.Passing.{IsAtToken, PassesTo}
use Rattle.kx_tree.specs.Sections.{flags}
use Rattle.kx_tree.specs.declared.tree.Flag.{Flag}
use Rattle.kx_parse.proofs.outline.pass_flags.Given as goal

abbrev pub invariant-flags : goal.invariant-flags
invariant-flags l = record {
  passes : (end : List ℕ) (more : List Flag) → PassesTo flags more l.rest end → PassesTo flags (l.flags.items ++ more) l.bytes end;
  within : length l.rest ≤ length l.bytes;
  at : IsAtToken l.rest;
}

abbrev pub decreases-flags : goal.decreases-flags
decreases-flags l = length l.rest
