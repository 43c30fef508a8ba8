use Rattle.kx_include.specs.Shared.{expanded_body}
use Rattle.kx_modmaps.proofs.Showing.{maps_are}
use Rattle.kx_modmaps.proofs.maps.modifier_maps.Goals as goal

pub returns-clause-maps : goal.returns-clause-maps
returns-clause-maps c = maps_are c.in_ok-merged.merged.records c.args.codes.now c.args.names.now c.args.modifiers.now.names (expanded_body c.args.expansion.now) c.in_ok-keysyms.keysyms.items c.in_ok-merged.ensures.shows c.in_ok-keysyms.ensures.entries
