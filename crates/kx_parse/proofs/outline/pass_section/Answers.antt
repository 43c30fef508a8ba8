use Rattle.std.proofs.Common.{refl}
use Rattle.kx_lex.proofs.PassedOver.{Ends-more}
use Rattle.kx_parse.proofs.PassedSections.{section-placed}
use Rattle.kx_parse.proofs.outline.pass_section.Goals as goal

pub pass_flagged-requires-clause-ends : goal.pass_flagged-requires-clause-ends
pass_flagged-requires-clause-ends c = Ends-more c.requires.ends (c.in_ok-flags.ensures.passes c.args.text.now c.requires.ends).lexes.ends

pub span_at-requires-2-clause-ends : goal.span_at-requires-2-clause-ends
span_at-requires-2-clause-ends c =
    let section = rw c.in-Some.is at c.in_ok-section.ensures.passes in
    Ends-more (Ends-more c.requires.ends (c.in_ok-flags.ensures.passes c.args.text.now c.requires.ends).lexes.ends) section.lexes.ends

pub returns-clause-passes : goal.returns-clause-passes
returns-clause-passes c =
    section-placed c.args.text.now c.in_ok-flags.flags c.in-Some.section (record { start = c.span_at.result.start; stop = c.span_at-2.result.stop }) c.requires.ends c.requires.at c.in_ok-flags.ensures.passes
    (rw c.in-Some.is at c.in_ok-section.ensures.passes) (rw c.in-Some.is at c.in_ok-section.ensures.at) c.in-Some-pass_mark.ensures.passes
    (rw (c.span_at.ensures, c.span_at-2.ensures) refl)
