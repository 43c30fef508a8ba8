use Rattle.std.proofs.Common.{◌∙◌, arith}
use Rattle.kx_lex.proofs.PassedOver.{word-end, word-other}
use Rattle.kx_lex.proofs.passing.front_is_word.Goals as goal

pub returns-in_default : goal.returns-in_default
returns-in_default c = λ same. word-other c.args.bytes.now c.in-Some.first.now _ c.in-Some.ensures.cases.0 (λ e. c.in_default.not-Word (c.start_of.ensures ∙ e))

pub returns-in-None : goal.returns-in-None
returns-in-None c = λ same. word-end c.args.bytes.now (omega (arith, c.in-None.ensures.cases))
