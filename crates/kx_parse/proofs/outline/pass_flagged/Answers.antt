use Rattle.kx_lex.proofs.PassedOver.{Ends-more}
use Rattle.kx_parse.proofs.PassedSections.{flagged-kind}
use Rattle.kx_parse.proofs.outline.pass_flagged.Goals as goal

pub pass_optional_name-requires-clause-ends : goal.pass_optional_name-requires-clause-ends
pass_optional_name-requires-clause-ends c = Ends-more c.requires.ends c.in-Some.ensures.passes.lexes.ends

pub pass_held-requires-clause-ends : goal.pass_held-requires-clause-ends
pass_held-requires-clause-ends c =
    let name = rw c.in-Some-2.is at c.in_ok-name.ensures.passes in
    Ends-more c.requires.ends (Ends-more c.in-Some.ensures.passes.lexes.ends name.lexes.ends)

pub returns-clause-passes : goal.returns-clause-passes
returns-clause-passes c =
    flagged-kind c.args.text.now _ c.in-Some-section_kind.kind c.in-Some-2.name c.in-Some-3.items c.requires.ends c.in-Some.ensures.passes c.in-Some-section_kind.ensures
    (rw c.in-Some-2.is at c.in_ok-name.ensures.passes) (rw c.in-Some-3.is at c.in_ok-items.ensures.passes)
