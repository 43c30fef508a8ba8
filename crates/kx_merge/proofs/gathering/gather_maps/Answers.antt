use Rattle.std.proofs.Common.{[], ◌∷◌, ◌++◌, refl, sym, subst, ◌∙◌}
use Rattle.kx_include.specs.Expansion.{End}
use Rattle.kx_include.specs.Shared.{shared_body}
use Rattle.kx_merge.specs.Gatherings.{AreGathered, none}
use Rattle.kx_merge.proofs.Behind.{behind_at, gathered_more}
use Rattle.kx_merge.proofs.gathering.gather_maps.Goals as goal

pub maps-init : goal.maps-init
maps-init g c = ([], subst (λ rs. AreGathered g.R.Fields.form g.R.Key.PartialEq.eq (g.R.Fields.rules c.args.context.now) g.R.Fields.moves rs []) (sym c.new-done.ensures.items) none, refl)

pub maps-preserved : goal.maps-preserved
maps-preserved g c =
    let form = g.R.Fields.form in
    let eq = g.R.Key.PartialEq.eq in
    let rules = g.R.Fields.rules c.args.context.now in
    let moves = g.R.Fields.moves in
    let y = c.maps.invariant in
    let body = shared_body y.0 c.map-item.result End in (
      y.0 ++ body ∷ [],
      subst (λ rs. AreGathered form eq rules moves rs (y.0 ++ body ∷ [])) (sym c.in_ok-push.ensures.items) (gathered_more form eq rules moves c.maps.done.items y.0 c.gather_map-one.result body y.1 (c.gather_map-one.ensures y.0 (subst (λ rs. AreGathered form eq rules moves rs y.0) (sym c.as_slice.ensures.value) y.1))),
      sym (behind_at y.0 c.args.maps.now c.maps.map-index c.map-item.result c.maps-test.true c.map-item.is) ∙ y.2,
    )
