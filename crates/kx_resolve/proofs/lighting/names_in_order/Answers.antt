use Rattle.std.proofs.Common.{◌++◌, ◌∷◌, [], All, ap, arith, subst, sym, take, ◌∙◌}
use Rattle.std.proofs.lemmas.List.Elements.{All-push}
use Rattle.kx_builder.specs.IndicatorMaps.{GroupNameIsValid}
use Rattle.kx_resolve.proofs.IndicatorMaps.{name_is, taken_next}
use Rattle.kx_resolve.proofs.lighting.names_in_order.Goals as goal

pub groups-preserved : goal.groups-preserved
groups-preserved c =
    let names = c.args.group_names.now in
    let group = c.groups.group in
    let name = c.name.result.now in
    let more = taken_next names group name (name_is names group name (omega (arith, c.groups-test.true, c.len-group-end.ensures.value)) c.name.ensures.value) in (
      c.in_ok-push_name.ensures.pushed ∙ ap (λ ns. ns ++ name ∷ []) c.groups.invariant.0 ∙ sym more,
      subst (All GroupNameIsValid) (sym more) (All-push GroupNameIsValid (take group names) name c.groups.invariant.1 c.in_ok-push_name.ensures.valid),
    )
