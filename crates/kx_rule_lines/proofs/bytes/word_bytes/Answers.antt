use Rattle.std.proofs.Common.{refl}
use Rattle.kx_rule_lines.specs.Bytes.{in_word_of}
use Rattle.kx_rule_lines.proofs.bytes.word_bytes.Goals as goal

pub returns : goal.returns
unfolding in_word_of
returns c = refl
