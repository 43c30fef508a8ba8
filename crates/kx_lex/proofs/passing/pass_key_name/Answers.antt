use Rattle.kx_lex.proofs.PassedOver.{key_name-passes}
use Rattle.kx_lex.proofs.passing.pass_key_name.Goals as goal

pub returns-clause-passes : goal.returns-clause-passes
returns-clause-passes c = key_name-passes c.in_ok-len.ensures.exact c.in_ok-len.ensures.within c.past_token.ensures.skips
