use Rattle.std.proofs.Common.{sym}
use Rattle.kx_lex.proofs.PassedOver.{digit-piece, digit-some}
use Rattle.kx_lex.proofs.passing.front_is_digit.Goals as goal

pub returns-in-Digit-clause-number : goal.returns-in-Digit-clause-number
returns-in-Digit-clause-number c = λ same. digit-piece c.args.bytes.now c.in-Some.first.now _ c.in-Some.ensures.cases.0 (sym c.in-Digit.ensures)

pub returns-in-Digit-clause-some : goal.returns-in-Digit-clause-some
returns-in-Digit-clause-some c = λ same. digit-some c.args.bytes.now c.in-Some.first.now _ c.in-Some.ensures.cases.0 (sym c.in-Digit.ensures)
