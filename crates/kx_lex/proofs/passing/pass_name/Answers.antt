use Rattle.std.proofs.Common.{refl}
use Rattle.kx_lex.proofs.PassedOver.{name-passes}
use Rattle.kx_lex.proofs.passing.pass_name.Goals as goal

pub returns-clause-passes : goal.returns-clause-passes
returns-clause-passes c =
    name-passes c.args.text.now (record { bytes = c.in_ok-unescaped.field-0; span = c.span_at.result }) c.requires.ends c.in-Some.ensures.exact c.in-Some.ensures.within c.past_token.ensures.skips
    (rw (c.in_ok-unescaped.ensures, c.span_at.ensures) refl)
