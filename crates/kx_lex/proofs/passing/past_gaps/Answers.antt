use Rattle.std.proofs.Common.{◌∙◌, sym}
use Rattle.kx_lex.proofs.PassedOver.{one-blank}
use Rattle.kx_lex.proofs.passing.past_gaps.Goals as goal

pub returns-clause-skips : goal.returns-clause-skips
returns-clause-skips c =
    one-blank c.args.bytes.now c.in-Some.first.now c.in-Some.rest.now c.in-Some.ensures.cases.0 (sym c.is_blank.ensures ∙ c.if-is_blank.true) (c.front_may_be_gap-2.ensures c.if-not-front_may_be_gap-2.true)
