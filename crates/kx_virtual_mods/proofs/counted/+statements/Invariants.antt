use Rattle.std.proofs.Common.{◌+◌, ◌*◌, drop, take}
use Rattle.std.specs.List.{flat_map}
use Rattle.kx_virtual_mods.specs.Tallies.{bodies_of, entry_statements, links_statements, map_statements}
use Rattle.kx_virtual_mods.proofs.Adding.{Going}
use Rattle.kx_virtual_mods.proofs.counted.+statements.Given as goal

abbrev pub decreases-add_map : goal.decreases-add_map
decreases-add_map g l = l.below * 4 + 3

abbrev pub decreases-add_entry : goal.decreases-add_entry
decreases-add_entry g l = l.below * 4 + 2

abbrev pub decreases-add_links : goal.decreases-add_links
decreases-add_links g l = l.below * 4 + 1

abbrev pub decreases-add_included : goal.decreases-add_included
decreases-add_included g l = l.below * 4

abbrev pub invariant-add_links-links : goal.invariant-add_links-links
invariant-add_links-links g l =
    let bodies = take l.below (bodies_of l.maps) in
    Going g.N.Naming.names l.limit l.maps l.initial.tally.names l.tally (links_statements bodies l.links) (links_statements bodies (drop l.link-index l.links))

abbrev pub invariant-add_map-entries : goal.invariant-add_map-entries
invariant-add_map-entries g l =
    let bodies = take l.below (bodies_of l.maps) in
    Going g.N.Naming.names l.limit l.maps l.initial.tally.names l.tally (map_statements bodies l.map) (flat_map (entry_statements bodies l.map.place) (drop l.entry-index l.map.entries.items))
