use Rattle.kx_lex.proofs.PassedOver.{text-passes}
use Rattle.kx_lex.proofs.passing.pass_text.Goals as goal

pub returns-clause-passes : goal.returns-clause-passes
returns-clause-passes c = text-passes c.in_ok-len.ensures.exact c.in_ok-len.ensures.within c.past_token.ensures.skips
