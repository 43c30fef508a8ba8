use Rattle.std.proofs.Common.{◌≤◌, List, length}
use Rattle.kx_rule_lines.specs.Lines.{is_word}
use Rattle.kx_rule_lines.specs.Pieces.{Piece, pieces}
use Rattle.kx_rules.specs.Steps.{IsBehind}
use Rattle.kx_rule_lines.specs.declared.scan.Kind.TheVariants.{NewLine}
use Rattle.kx_rules.proofs.skipping.behind_line_end.Given as goal

abbrev pub invariant-words : goal.invariant-words
invariant-words l = record { same : (found : List Piece) → IsBehind is_word NewLine (pieces l.rest 0) found → IsBehind is_word NewLine (pieces l.text 0) found; within : length l.rest ≤ length l.text }

abbrev pub decreases-words : goal.decreases-words
decreases-words l = length l.rest
