use Rattle.kx_lex.proofs.PassedOver.{mark-passes}
use Rattle.kx_lex.proofs.passing.pass_mark.Goals as goal

pub returns-in-Some-clause-passes : goal.returns-in-Some-clause-passes
returns-in-Some-clause-passes c = mark-passes c.args.byte c.args.bytes.now c.in-Some.first.now c.in-Some.left.now c.past_gaps.result.now c.in-Some.ensures.cases.0 c.if-first-byte.true c.requires c.past_gaps.ensures.skips
