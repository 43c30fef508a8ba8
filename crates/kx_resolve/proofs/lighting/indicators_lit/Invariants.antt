use Rattle.std.proofs.Common.{◌≡◌, All, map, take}
use Rattle.kx_builder.specs.IndicatorMaps.{IndicatorIsValid, indicator_of}
use Rattle.kx_virtual_mods.specs.Sets.{real_of}
use Rattle.kx_virtual_mods.specs.Standing.{stands_for}
use Rattle.kx_resolve.specs.Lit.{indicators_of}
use Rattle.kx_resolve.proofs.lighting.indicators_lit.Given as goal

abbrev pub invariant-indicators : goal.invariant-indicators
invariant-indicators l =
    (map indicator_of l.lit.items ≡ take l.number (indicators_of (real_of (stands_for l.stands)) l.indicators))
    × All IndicatorIsValid (map indicator_of l.lit.items)
