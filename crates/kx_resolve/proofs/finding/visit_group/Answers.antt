use Rattle.std.proofs.Common.{nat_eq, ap, ◌∙◌}
use Rattle.indexmap.specs.IndexMap.{get}
use Rattle.kx_keys.specs.Given.{given}
use Rattle.kx_keys.specs.GroupTypes.{level_keysyms}
use Rattle.kx_resolve.proofs.Visiting.{visits_none}
use Rattle.kx_resolve.proofs.PlaceSteps.{levels_none}
use Rattle.kx_resolve.proofs.Walking.{visits_level}
use Rattle.kx_keys.specs.Mapping.{level_places}
use Rattle.kx_resolve.proofs.finding.visit_group.Goals as goal

pub levels-init : goal.levels-init
levels-init c = visits_none (get nat_eq c.args.firsts.now) (λ k. level_places k (given c.args.key.now) c.args.code c.args.group 0) (λ k. levels_none k (given c.args.key.now) c.args.code c.args.group)

pub levels-preserved : goal.levels-preserved
levels-preserved c =
    let keysyms_are = c.keysyms_at.ensures.value ∙ ap (λ g. level_keysyms (given c.args.key.now) g c.levels.level) c.content_group-content.ensures in
    visits_level (get nat_eq c.args.firsts.now) (get nat_eq c.levels.firsts) (get nat_eq c.visit_level.new.firsts) (given c.args.key.now) c.args.code c.args.group c.levels.level c.keysyms_at.result.now keysyms_are c.levels.invariant c.visit_level.ensures
