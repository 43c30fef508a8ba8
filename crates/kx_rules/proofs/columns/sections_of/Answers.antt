use Rattle.std.proofs.Common.{◌+◌, drop, sym, ap, ◌∙◌}
use Rattle.std.specs.List.{list_any}
use Rattle.std.proofs.lemmas.List.{drop_all}
use Rattle.kx_rules.specs.Mappings.{each_new, is_section, section_of}
use Rattle.kx_rules.proofs.EachNew.{said, said_before, unknown}
use Rattle.kx_rules.proofs.columns.sections_of.Goals as goal

pub returns-in-None : goal.returns-in-None
returns-in-None c =
    let reads = ap section_of (sym c.text.ensures) ∙ sym c.section_of.ensures ∙ c.in-None.is in
    sym (unknown is_section section_of c.words.sections.items c.args.words.now c.words.word-index c.word-item.result c.words-test.true c.word-item.is reads) ∙ c.words.invariant

pub returns-then-has_section : goal.returns-then-has_section
returns-then-has_section c =
    let x = c.in-Some.section in
    let reads = ap section_of (sym c.text.ensures) ∙ sym c.section_of.ensures ∙ c.in-Some.is in
    let before = ap (list_any (is_section x)) (sym c.as_slice.ensures.value) ∙ sym c.has_section.ensures ∙ c.if-has_section.true in
    sym (said_before is_section section_of c.words.sections.items c.args.words.now c.words.word-index c.word-item.result c.words-test.true c.word-item.is x reads before) ∙ c.words.invariant

pub words-preserved : goal.words-preserved
words-preserved c =
    let x = c.in-Some.section in
    let rest = drop (c.words.word-index + 1) c.args.words.now in
    let reads = ap section_of (sym c.text.ensures) ∙ sym c.section_of.ensures ∙ c.in-Some.is in
    let new = ap (list_any (is_section x)) (sym c.as_slice.ensures.value) ∙ sym c.has_section.ensures ∙ c.if-has_section.false in
    ap (λ known. each_new is_section section_of known rest) c.in_ok-push-in-Some.ensures.items
    ∙ sym (said is_section section_of c.words.sections.items c.args.words.now c.words.word-index c.word-item.result c.words-test.true c.word-item.is x reads new)
    ∙ c.words.invariant

pub returns : goal.returns
returns c = ap (λ words. each_new is_section section_of c.words.sections.items words) (sym (drop_all c.words.word-index c.args.words.now c.words-test.false)) ∙ c.words.invariant
