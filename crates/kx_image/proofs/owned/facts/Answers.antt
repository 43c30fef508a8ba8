use Rattle.std.proofs.Common.{ap, sym, ◌∙◌, subst}
use Rattle.kx_tables.specs.Content.{Content, greatest_groups}
use Rattle.kx_image.specs.Image.{IsImage}
use Rattle.kx_image.proofs.Refused.{content_is}
use Rattle.kx_image.proofs.owned.facts.Goals as goal

pub returns-clause-found : goal.returns-clause-found
returns-clause-found c =
    let image = c.in-Ok.ensures.found in
    let same = content_is c.args.bytes.now c.in-Ok.view image in
    record {
      shape = c.in_ok-header.ensures;
      image = subst (λ (d : Content). IsImage d c.args.bytes.now) (sym same) image;
      most_is = c.greatest_groups-most_groups.ensures ∙ ap (λ (d : Content). greatest_groups d.keys) (sym same);
    }
