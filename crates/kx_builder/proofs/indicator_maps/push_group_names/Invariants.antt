use Rattle.std.proofs.Common.{◌≡◌, map, take}
use Rattle.kx_builder.specs.IndicatorMaps.{with_group_names}
use Rattle.kx_tables.specs.RawTables.{content_of}
use Rattle.kx_builder.proofs.indicator_maps.push_group_names.Given as goal

abbrev pub invariant-names : goal.invariant-names
invariant-names l = content_of l.parts ≡ with_group_names (content_of l.initial.parts) (map (λ g. g.now) (take l.name-index l.names))
