use Rattle.std.proofs.Common.{arith, map}
use Rattle.kx_builder.specs.IndicatorMaps.{indicator_of}
use Rattle.kx_virtual_mods.specs.Sets.{real_of}
use Rattle.kx_virtual_mods.specs.Standing.{stands_for}
use Rattle.kx_resolve.proofs.IndicatorMaps.{lit_all, lit_next}
use Rattle.kx_resolve.proofs.lighting.indicators_lit.Goals as goal

pub indicators-preserved : goal.indicators-preserved
indicators-preserved c =
    let real = real_of (stands_for c.args.stands.now) in
    let now = map indicator_of c.indicators.lit.items in
    let new = map indicator_of c.push_indicator.new.lit.items in (
      lit_next real c.args.indicators.now c.len-number-end.ensures.valid c.indicators.number now new (omega (arith, c.indicators-test.true, c.len-number-end.ensures.value)) c.indicators.invariant.0 c.in_ok-push_indicator.ensures.lit,
      c.in_ok-push_indicator.ensures.valid c.indicators.invariant.1,
    )

pub returns-clause-lit : goal.returns-clause-lit
returns-clause-lit c =
    lit_all (real_of (stands_for c.args.stands.now)) c.args.indicators.now c.len-number-end.ensures.valid c.indicators.number (map indicator_of c.indicators.lit.items) (omega (arith, c.indicators-test.false, c.len-number-end.ensures.value)) c.indicators.invariant.0
