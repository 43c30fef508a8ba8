use Rattle.std.proofs.Common.{◌≡◌, ◌≤◌, length}
use Rattle.kx_rule_lines.specs.Pieces.{pieces}
use Rattle.kx_rule_lines.proofs.scan.behind_gaps.Given as goal

abbrev pub invariant-gaps : goal.invariant-gaps
invariant-gaps l = record { same : pieces l.rest 0 ≡ pieces l.text 0; within : length l.rest ≤ length l.text }

abbrev pub decreases-gaps : goal.decreases-gaps
decreases-gaps l = length l.rest
