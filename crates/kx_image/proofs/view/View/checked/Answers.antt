use Rattle.std.proofs.Common.{arith, ap, sym, ◌∙◌, subst}
use Rattle.kx_tables.specs.Content.{Content, greatest_groups}
use Rattle.kx_tables.specs.Sound.{Sound}
use Rattle.kx_image.specs.Image.{IsImage}
use Rattle.kx_image.proofs.Found.{image_found}
use Rattle.kx_image.proofs.view.View.checked.Goals as goal

pub returns-clause-found : goal.returns-clause-found
returns-clause-found c =
    let form = c.in_ok-header.ensures in
    let checked = c.in_default.ensures in
    let same = c.new-layout.ensures in
    let groups_are = sym (ap (λ h. h.groups) form.header) ∙ c.if-header-from.false ∙ c.from.ensures ∙ c.most_groups-most_groups.ensures ∙ ap (λ (d : Content). greatest_groups d.keys) same in
    subst (λ (d : Content). IsImage d c.args.bytes.now) (sym same)
    (image_found c.args.bytes.now (λ i. omega (arith, c.type_inv.bytes i)) form.whole form.end c.in_ok-check_records.ensures.ok groups_are (subst Sound same checked.ok))
