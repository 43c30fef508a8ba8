use Rattle.std.proofs.Common.{arith}
use Rattle.kx_lex.proofs.Pieces.{word-in, word-out}
use Rattle.kx_lex.proofs.start.is_word_byte.Goals as goal

pub returns-in-Word : goal.returns-in-Word
returns-in-Word c = word-in c.args.byte c.start_of.result (omega arith) c.start_of.ensures c.in-Word.is

pub returns-in_default : goal.returns-in_default
returns-in_default c = word-out c.args.byte c.start_of.result (omega arith) c.start_of.ensures c.in_default.not-Word c.in_default.not-Digit
