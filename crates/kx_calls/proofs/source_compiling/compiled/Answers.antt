use Rattle.std.proofs.Common.{◌∙◌, List, ℕ, subst, sym}
use Rattle.kx_image.proofs.Refused.{one_content}
use Rattle.kx_include.specs.Source.{Handed}
use Rattle.kx_source.specs.Source.{Means}
use Rattle.kx_tables.specs.Content.{Content}
use Rattle.kx_calls.proofs.source_compiling.compiled.Goals as goal

-- the tables that are opened are those that were written, since the image has one content
pub returns-clause-means : goal.returns-clause-means
returns-clause-means c =
    let held = c.args.held.now in let names = c.args.names.now in
    let written = c.in_ok-image.ensures.image in
    let over_files = subst (λ (files : Handed). Means c.text.result.now files names written.0) c.files.ensures written.1.means in
    let means = subst (λ (text : List ℕ). Means text held.files names written.0) c.text.ensures over_files in
    let same = one_content c.in_ok-image.image.items written.0 c.in-Ok.tables written.1.image c.in-Ok.ensures.found in
    subst (λ (content : Content). Means held.text held.files names content) (same ∙ sym c.in-Ok-new.ensures.ok) means
