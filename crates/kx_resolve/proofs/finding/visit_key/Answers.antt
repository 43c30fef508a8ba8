use Rattle.std.proofs.Common.{nat_eq}
use Rattle.indexmap.specs.IndexMap.{get}
use Rattle.kx_keys.specs.Given.{given}
use Rattle.kx_resolve.proofs.Visiting.{visits_none}
use Rattle.kx_resolve.proofs.PlaceSteps.{groups_none}
use Rattle.kx_resolve.proofs.Walking.{visits_group}
use Rattle.kx_keys.specs.Mapping.{group_places}
use Rattle.kx_keys.specs.Typing.{typing_of}
use Rattle.kx_resolve.proofs.finding.visit_key.Goals as goal

pub groups-init : goal.groups-init
groups-init c =
    let typing = typing_of c.args.typing in
    visits_none (get nat_eq c.args.firsts.now) (λ k. group_places k typing (given c.args.key.now) c.args.code 0) (λ k. groups_none k (given c.args.key.now) c.args.code typing)

pub groups-preserved : goal.groups-preserved
groups-preserved c = visits_group (get nat_eq c.args.firsts.now) (get nat_eq c.groups.firsts) (get nat_eq c.visit_group.new.firsts) (given c.args.key.now) c.args.code c.groups.group (typing_of c.args.typing) c.group_type.result.levels c.group_type.ensures.levels c.groups.invariant c.visit_group.ensures
