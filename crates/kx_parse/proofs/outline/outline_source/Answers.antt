use Rattle.kx_lex.specs.Reading.{mark_len}
use Rattle.kx_lex.proofs.PassedOver.{Ends-drop, Ends-more}
use Rattle.kx_parse.proofs.PassedSections.{mark-fits, outlined-source}
use Rattle.kx_parse.proofs.outline.outline_source.Goals as goal

pub pass_source_front-requires-clause-ends : goal.pass_source_front-requires-clause-ends
pass_source_front-requires-clause-ends c = Ends-more (Ends-drop (mark_len c.args.text.now) c.args.text.now) c.first_in.ensures.skips.ends

pub pass_sections-requires-clause-ends : goal.pass_sections-requires-clause-ends
pass_sections-requires-clause-ends c =
    let text = c.args.text.now in
    let first = rw c.in-Some.is at c.in_ok-open.ensures.passes in
    Ends-more (Ends-more (Ends-drop (mark_len text) text) c.first_in.ensures.skips.ends) first.lexes.ends

pub returns-clause-outline : goal.returns-clause-outline
returns-clause-outline c =
    let text = c.args.text.now in
    let first = rw c.in-Some.is at c.in_ok-open.ensures.passes in
    let sections = rw c.in-Some-2.is at c.in_ok-outline.ensures in
    let ends = Ends-more (Ends-more (Ends-more (Ends-drop (mark_len text) text) c.first_in.ensures.skips.ends) first.lexes.ends) sections.lexes.ends in
    outlined-source text c.first_in.result.now c.in-Some-2.outline (mark-fits text) c.first_in.ensures.skips first sections (c.ends_source.ensures c.if-not-ends_source.false text ends)
