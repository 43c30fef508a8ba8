use Rattle.std.proofs.Common.{◌≤◌, List, length}
use Rattle.kx_rule_lines.specs.Lines.{is_value}
use Rattle.kx_rule_lines.specs.Pieces.{Piece, pieces}
use Rattle.kx_rules.specs.Steps.{IsBehind}
use Rattle.kx_rule_lines.specs.declared.scan.Kind.TheVariants.{Equals}
use Rattle.kx_rules.proofs.skipping.behind_equals.Given as goal

abbrev pub invariant-values : goal.invariant-values
invariant-values l = record { same : (found : List Piece) → IsBehind is_value Equals (pieces l.rest 0) found → IsBehind is_value Equals (pieces l.text 0) found; within : length l.rest ≤ length l.text }

abbrev pub decreases-values : goal.decreases-values
decreases-values l = length l.rest
