use Rattle.std.proofs.Common.{◌≡◌, map, take}
use Rattle.kx_builder.specs.IndicatorMaps.{indicator_of, with_indicators}
use Rattle.kx_tables.specs.RawTables.{content_of}
use Rattle.kx_builder.proofs.indicator_maps.push_indicators.Given as goal

abbrev pub invariant-indicators : goal.invariant-indicators
invariant-indicators l = content_of l.parts ≡ with_indicators (content_of l.initial.parts) (map indicator_of (take l.indicator-index l.indicators))
