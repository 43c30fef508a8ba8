use Rattle.std.proofs.Common.{◌+◌, ◌*◌, length, drop}
use Rattle.kx_include.proofs.Walking.{Gone}
use Rattle.kx_include.proofs.Visiting.{AreEntries, IsEntry, AreLinks, IsLink}
use Rattle.kx_include.specs.IncludeFaults.{in_depth, in_item, in_part}
use Rattle.kx_include.specs.Library.{items_in}
use Rattle.kx_include.proofs.sources.Library.+includes.Given as goal

abbrev pub invariant-expand_items-items : goal.invariant-expand_items-items
invariant-expand_items-items l = Gone l.self l.kind (λ d. in_item (in_depth d l.self l.kind) l.place.file) (AreEntries l.self l.kind l.place) (IsEntry l.self l.kind l.place) l.depth l.fn.seen l.fn.maps.items l.maps.items (items_in l.self l.place) l.left l.entries.items l.deepest l.count

abbrev pub decreases-expand_items-items : goal.decreases-expand_items-items
decreases-expand_items-items l = length l.left

abbrev pub invariant-expand_parts-parts : goal.invariant-expand_parts-parts
invariant-expand_parts-parts l = Gone l.self l.kind (λ d. in_part (in_depth d l.self l.kind l.text) l.whole) (AreLinks l.self l.kind) (IsLink l.self l.kind) l.depth l.fn.seen l.fn.maps.items l.maps.items l.parts (drop l.part-index l.parts) l.links.items l.deepest l.count

abbrev pub decreases-expand_file : goal.decreases-expand_file
decreases-expand_file l = l.depth * 8 + 8

abbrev pub decreases-map_number : goal.decreases-map_number
decreases-map_number l = l.depth * 8 + 7

abbrev pub decreases-expand_map : goal.decreases-expand_map
decreases-expand_map l = l.depth * 8 + 6

abbrev pub decreases-expand_items : goal.decreases-expand_items
decreases-expand_items l = l.depth * 8 + 5

abbrev pub decreases-expand_item : goal.decreases-expand_item
decreases-expand_item l = l.depth * 8 + 4

abbrev pub decreases-expand_text : goal.decreases-expand_text
decreases-expand_text l = l.depth * 8 + 3

abbrev pub decreases-expand_parts : goal.decreases-expand_parts
decreases-expand_parts l = l.depth * 8 + 2

abbrev pub decreases-expand_part : goal.decreases-expand_part
decreases-expand_part l = l.depth * 8 + 1
