use Rattle.std.proofs.Common.{◌∙◌, Option, Some, ap, sym}
use Rattle.std.proofs.lemmas.Option.{slice_get-get_or}
use Rattle.std.specs.Prelude.{unwrap_or}
use Rattle.kx_tree.specs.declared.tree.Section.{Section}
use Rattle.kx_include.proofs.FileTexts.{built-at, none-built}
use Rattle.kx_include.proofs.indexed.shown_at.Goals as goal

pub returns-in-Some-built_at : goal.returns-in-Some-built_at
returns-in-Some-built_at c =
    let at = c.in-Some.ensures.lookup in
    let found = slice_get-get_or c.args.outlines.now c.args.number c.in-Some.outline.now at.3.0 ∙ ap Some (sym (at.3.1 c.in-Some.outline.now)) in
    ap (λ (b : Option Section). Some (unwrap_or b c.in-Some.outline.now)) c.in-Some-built_at.ensures ∙ sym (built-at c.args.outlines.now c.args.built.now c.args.number c.in-Some.outline.now found)

pub returns-in-None-built_at : goal.returns-in-None-built_at
returns-in-None-built_at c =
    let at = c.in-Some.ensures.lookup in
    let found = slice_get-get_or c.args.outlines.now c.args.number c.in-Some.outline.now at.3.0 ∙ ap Some (sym (at.3.1 c.in-Some.outline.now)) in
    ap (λ (b : Option Section). Some (unwrap_or b c.in-Some.outline.now)) c.in-None-built_at.ensures ∙ sym (built-at c.args.outlines.now c.args.built.now c.args.number c.in-Some.outline.now found)

pub returns-in-None : goal.returns-in-None
returns-in-None c = sym (none-built c.args.outlines.now c.args.built.now c.args.number c.in-None.ensures.lookup.3)
