use Rattle.std.proofs.Common.{ℕ, All, Bor, List, ap, map, subst, sym, ◌∙◌}
use Rattle.kx_builder.specs.IndicatorMaps.{GroupNameIsValid, IndicatorIsValid, indicator_of}
use Rattle.kx_resolve.proofs.IndicatorMaps.{indicator_maps_valid}
use Rattle.kx_resolve.specs.Read.{real_in}
use Rattle.kx_resolve.proofs.lighting.with_indicator_maps.Goals as goal

pub with_indicator_maps-requires : goal.with_indicator_maps-requires
with_indicator_maps-requires c =
    let texts : List (Bor (List ℕ)) → List (List ℕ) = map (λ (g : Bor (List ℕ)). g.now) in
    let lit = ap (map indicator_of) c.as_slice.ensures.value in
    let named = ap texts c.as_slice-2.ensures.value in
    record {
      valid = indicator_maps_valid (real_in c.args.read) c.args.read.indicators.now (map indicator_of c.as_slice.result.now) c.args.read.group_names.now (texts c.as_slice-2.result.now) c.in_ok-lit.ensures.numbered
          (lit ∙ c.in_ok-lit.ensures.lit)
          (subst (All IndicatorIsValid) (sym lit) c.in_ok-lit.ensures.valid)
          c.in_ok-names.ensures.cut
          (named ∙ c.in_ok-names.ensures.names)
          (subst (All GroupNameIsValid) (sym named) c.in_ok-names.ensures.valid);
    }
