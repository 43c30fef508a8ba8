use Rattle.std.proofs.Common.{◌∙◌, Some, List, ap, length, sym}
use Rattle.kx_tree.specs.declared.tree.Section.{Section}
use Rattle.kx_include.specs.FileText.{outline_sections}
use Rattle.kx_include.specs.Kept.{text_of}
use Rattle.kx_include.specs.Library.{Text, sections_of}
use Rattle.kx_include.specs.declared.indexed.Kept.{Kept}
use Rattle.kx_include.proofs.FileTexts.{length-built}
use Rattle.kx_include.proofs.indexed.IndexedText.section_count.Goals as goal

pub returns-in-Outlined : goal.returns-in-Outlined
returns-in-Outlined c =
    let shown = ap (λ (k : Kept). text_of k) (sym c.in-Outlined.is) ∙ c.self.view_is in
    ap (λ (ss : List Section). length ss) c.outlined_sections.ensures ∙ sym (length-built (outline_sections c.in-Outlined.file.now.outline) c.in-Outlined.built.items) ∙ ap (λ (t : Text). length (sections_of (Some t))) shown
