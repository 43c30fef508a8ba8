use Rattle.std.proofs.Common.{◌∙◌, Option, Some, List, ap, sym}
use Rattle.std.specs.List.{slice_get}
use Rattle.kx_tree.specs.declared.tree.Section.{Section}
use Rattle.kx_include.specs.FileText.{outline_sections}
use Rattle.kx_include.specs.Kept.{built_over, text_of}
use Rattle.kx_include.specs.Library.{Text, sections_of}
use Rattle.kx_include.specs.declared.indexed.Kept.{Kept}
use Rattle.kx_include.proofs.indexed.IndexedText.section_at.Goals as goal

pub returns-in-Outlined : goal.returns-in-Outlined
returns-in-Outlined c =
    let shown = ap (λ (k : Kept). text_of k) (sym c.in-Outlined.is) ∙ c.self.view_is in
    c.shown_at.ensures ∙ ap (λ (os : List Section). slice_get (built_over os c.as_slice.result.now) c.args.number) c.outlined_sections.ensures
    ∙ ap (λ (bs : List (Option Section)). slice_get (built_over (outline_sections c.in-Outlined.file.now.outline) bs) c.args.number) c.as_slice.ensures.value
    ∙ ap (λ (t : Text). slice_get (sections_of (Some t)) c.args.number) shown
