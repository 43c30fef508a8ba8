use Rattle.std.proofs.Common.{◌≡◌, subst}
use Rattle.std.specs.Prelude.{IfSome}
use Rattle.kx_lex.specs.Passing.{IsAtToken, PassesAs}
use Rattle.kx_lex.specs.Production.{spanned}
use Rattle.kx_lex.specs.declared.token.Span.{Span}
use Rattle.kx_lex.proofs.PassedOver.{Ends-more}
use Rattle.kx_parse.specs.Outline.{outline_of}
use Rattle.kx_tree.specs.Sections.{section}
use Rattle.kx_tree.specs.declared.tree.Section.{Section}
use Rattle.kx_parse.proofs.PassedSections.{sections-all, sections-more, sections-none}
use Rattle.kx_parse.proofs.outline.pass_sections.Goals as goal

pub sections-init : goal.sections-init
sections-init c = record {
  passes = λ end all stands p. rw (c.new-sections.ensures.items, c.new-places.ensures.items) at p;
  at = c.requires.at;
  ends = c.requires.ends;
}

pub sections-preserved : goal.sections-preserved
sections-preserved c =
    let text = c.args.text.now in
    let passes : PassesAs text (spanned (section text)) (λ s. ◌≡◌ {A = Section × Span} c.in-Some.placed (outline_of s.0, s.1)) c.sections.rest.now c.in-Some.left.now =
    subst (λ o. IfSome o (λ p. PassesAs text (spanned (section text)) (λ s. ◌≡◌ {A = Section × Span} p.0 (outline_of s.0, s.1)) c.sections.rest.now p.1.now)) c.in-Some.is c.in_ok-placed.ensures.passes in
    record {
      passes = λ end all stands p. c.sections.invariant.passes end all stands (sections-more text all c.sections.sections.items stands c.sections.places.items c.in-Some.placed.0 c.in-Some.placed.1 passes (rw (c.in_ok-push.ensures.items, c.in_ok-push-2.ensures.items) at p));
      at = subst (λ o. IfSome o (λ p. IsAtToken p.1.now)) c.in-Some.is c.in_ok-placed.ensures.at;
      ends = Ends-more c.sections.invariant.ends passes.lexes.ends;
    }

pub returns : goal.returns
returns c =
    let text = c.args.text.now in
    let sections = c.sections.sections.items in
    let places = c.sections.places.items in
    let last = sections-none text sections places c.sections.rest.now c.sections.invariant.ends (c.end_sections.ensures c.sections-test.false) in
    let all = c.sections.invariant.passes c.sections.rest.now sections places last in
    sections-all text c.fitted.result c.fitted-2.result (rw (c.fitted.ensures, c.of.ensures, c.fitted-2.ensures, c.of-2.ensures) all)
