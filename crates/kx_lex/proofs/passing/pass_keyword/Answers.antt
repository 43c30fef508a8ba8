use Rattle.kx_lex.proofs.PassedOver.{keyword-passes}
use Rattle.kx_lex.proofs.passing.pass_keyword.Goals as goal

pub returns-clause-passes : goal.returns-clause-passes
returns-clause-passes c = keyword-passes (rw c.keyword_of.ensures c.in_ok-len.ensures.exact) c.in_ok-len.ensures.within c.past_token.ensures.skips
