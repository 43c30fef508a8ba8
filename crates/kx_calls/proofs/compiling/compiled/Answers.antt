use Rattle.std.proofs.Common.{◌∙◌, [], subst, sym}
use Rattle.kx_image.proofs.Refused.{one_content}
use Rattle.kx_include.specs.Source.{Handed}
use Rattle.kx_source.specs.Source.{Means}
use Rattle.kx_tables.specs.Content.{Content}
use Rattle.kx_calls.specs.Handed.{handed}
use Rattle.kx_calls.proofs.compiling.compiled.Goals as goal

-- the tables that are opened are those that were written, since the image has one content
pub returns-clause-means : goal.returns-clause-means
returns-clause-means c =
    let source = c.args.source.now in let names = c.args.names.now in
    let written = c.in_ok-image.ensures.image in
    let means = subst (λ (files : Handed). Means source files names written.0) c.in_ok-files.ensures.files written.1.means in
    let same = one_content c.in_ok-image.image.items written.0 c.in-Ok.tables written.1.image c.in-Ok.ensures.found in
    subst (λ (content : Content). Means source (handed [] c.args.files.now) names content) (same ∙ sym c.in-Ok-new.ensures.ok) means
