use Rattle.std.proofs.Common.{drop, length, take}
use Rattle.std.specs.List.{flat_map}
use Rattle.kx_virtual_mods.specs.Tallies.{bodies_of, map_statements}
use Rattle.kx_virtual_mods.proofs.Adding.{Going}
use Rattle.kx_virtual_mods.proofs.counted.count_names.Given as goal

abbrev pub invariant-sections : goal.invariant-sections
invariant-sections g l =
    let maps = l.expansion.maps.items in
    let bodies = take (length maps) (bodies_of maps) in
    Going g.N.Naming.names l.limit maps l.fn.names l.tally (flat_map (map_statements bodies) l.expansion.sections.items) (flat_map (map_statements bodies) (drop l.section-index l.expansion.sections.items))
