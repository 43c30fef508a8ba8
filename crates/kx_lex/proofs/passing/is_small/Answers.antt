use Rattle.std.proofs.Common.{arith}
use Rattle.std.proofs.lemmas.Bool.{le-leb}
use Rattle.kx_lex.proofs.Numbers.{number-short}
use Rattle.kx_lex.proofs.passing.is_small.Goals as goal

pub returns-then-number-le9 : goal.returns-then-number-le9
returns-then-number-le9 c = (λ _. number-short c.args.number.now (omega arith), λ _. le-leb _ _ (omega arith))
