use Rattle.std.proofs.Common.{arith}
use Rattle.std.proofs.lemmas.List.FromFn.{get_or-map-range_with_len}
use Rattle.kx_rule_lines.specs.Bytes.{in_word_of}
use Rattle.kx_rule_lines.specs.declared.bytes.InWord.TheVariants.{No}
use Rattle.kx_rule_lines.proofs.bytes.in_word_of.Goals as goal

pub returns : goal.returns
returns c = rw c.word_bytes.ensures (get_or-map-range_with_len in_word_of 0 256 c.from.result c.args.byte No (omega arith) (omega arith))
