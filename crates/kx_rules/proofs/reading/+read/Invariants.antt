use Rattle.std.proofs.Common.{◌≡◌, [], length}
use Rattle.kx_rule_lines.specs.Lines.{lines}
use Rattle.kx_rule_lines.specs.Pieces.{pieces}
use Rattle.kx_rules.specs.Rules.{included, lines_of, run}
use Rattle.kx_rules.proofs.reading.+read.Given as goal

abbrev pub decreases-read : goal.decreases-read
decreases-read l = l.depth

abbrev pub invariant-lines : goal.invariant-lines
invariant-lines l = run l.names (included l.depth l.names l.texts) l.state (lines [] (pieces l.rest 0)) ≡ run l.names (included l.depth l.names l.texts) l.initial.state (lines_of l.text)

abbrev pub decreases-lines : goal.decreases-lines
decreases-lines l = length l.rest
