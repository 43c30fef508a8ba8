use Rattle.kx_lex.proofs.PassedOver.{number-passes}
use Rattle.kx_lex.proofs.passing.pass_number.Goals as goal

pub returns-clause-passes : goal.returns-clause-passes
returns-clause-passes c =
    number-passes c.in_ok-len.ensures.exact c.in_ok-len.ensures.within (c.is_small.ensures.0 c.if-not-is_small.false) c.past_token.ensures.skips
