use Rattle.std.proofs.Common.{◌∙◌, Some, ap, sym}
use Rattle.std.proofs.lemmas.Option.{slice_get-get_or}
use Rattle.kx_parse.proofs.BuiltSections.{elsewhere-in, numbered-in}
use Rattle.kx_parse.proofs.outline.numbered.Goals as goal

pub returns-clause-section : goal.returns-clause-section
returns-clause-section c =
    let at = c.in-Some.ensures.lookup in
    let found = slice_get-get_or c.args.places.now c.args.number c.in-Some.place.now at.3.0 ∙ ap Some (sym (at.3.1 c.in-Some.place.now)) in
    numbered-in c.args.text.now c.args.places.now c.args.number c.in-Some.place.now found c.section_at.result c.section_at.ensures.section

pub returns-clause-none : goal.returns-clause-none
returns-clause-none c =
    let at = c.in-Some.ensures.lookup in
    let found = slice_get-get_or c.args.places.now c.args.number c.in-Some.place.now at.3.0 ∙ ap Some (sym (at.3.1 c.in-Some.place.now)) in
    elsewhere-in c.args.text.now c.args.places.now c.args.number c.in-Some.place.now found c.section_at.result c.section_at.ensures.none
