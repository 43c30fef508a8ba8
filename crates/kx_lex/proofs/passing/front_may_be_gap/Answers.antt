use Rattle.std.proofs.Common.{◌∙◌}
use Rattle.kx_lex.proofs.PassedOver.{token-end, token-other}
use Rattle.kx_lex.proofs.passing.front_may_be_gap.Goals as goal

pub returns-in_default : goal.returns-in_default
returns-in_default c never =
    token-other c.args.bytes.now c.in-Some.first.now c.in-Some.field-0-1.now c.in-Some.ensures.cases.0
    (λ e. c.in_default.not-Blank (c.start_of.ensures ∙ e)) (λ e. c.in_default.not-Hash (c.start_of.ensures ∙ e)) (λ e. c.in_default.not-Slash (c.start_of.ensures ∙ e))

pub returns-in-None : goal.returns-in-None
returns-in-None c never = token-end c.args.bytes.now c.in-None.ensures.cases
