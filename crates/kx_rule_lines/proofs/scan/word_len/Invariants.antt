use Rattle.std.proofs.Common.{length}
use Rattle.kx_rule_lines.specs.Pieces.{is_word_byte}
use Rattle.kx_rule_lines.proofs.Words.{SoFar}
use Rattle.kx_rule_lines.proofs.scan.word_len.Given as goal

abbrev pub invariant-fours : goal.invariant-fours
invariant-fours l = SoFar is_word_byte l.text l.rest l.len

abbrev pub decreases-fours : goal.decreases-fours
decreases-fours l = length l.rest
