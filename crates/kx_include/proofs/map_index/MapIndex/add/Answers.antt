use Rattle.std.proofs.Common.{Some, ap, ◌∙◌}
use Rattle.kx_include.proofs.Indexing.{index_more}
use Rattle.kx_include.specs.MapIndex.{found, with_flagged, with_map}
use Rattle.kx_include.proofs.map_index.MapIndex.add.Goals as goal

pub returns : goal.returns
returns c = λ seen many is.
    let added = c.in_ok-add_named.ensures in
    index_more c.args.self.now _ seen c.args.section.now c.args.number many is
    (λ kind name. ap (λ i. found i kind (Some name)) c.self.view_is ∙ added.named kind name)
    (c.with_flagged-self-inside.ensures ∙ ap (λ maps. with_flagged maps c.args.section.now c.args.number) (ap (λ i. i.flagged) c.self.view_is ∙ added.flagged))
    (c.with-self-inside.ensures ∙ ap (λ maps. with_map maps c.args.section.now.kind c.args.number) (ap (λ i. i.first) c.self.view_is ∙ added.first))
