use Rattle.std.proofs.Common.{◌≡◌, ◌≤◌, ◌+◌, [], length}
use Rattle.kx_rule_lines.specs.Lines.{lines}
use Rattle.kx_rule_lines.specs.Pieces.{pieces}
use Rattle.kx_rule_lines.proofs.lines.next_line.Given as goal

abbrev pub invariant-pieces : goal.invariant-pieces
invariant-pieces l = record { same : lines l.line.items (pieces l.rest 0) ≡ lines [] (pieces l.text 0); within : length l.rest + length l.line.items ≤ length l.text }

abbrev pub decreases-pieces : goal.decreases-pieces
decreases-pieces l = length l.rest
