use Rattle.std.proofs.Common.{◌<◌, length, nat_eq}
use Rattle.indexmap.specs.IndexMap.{get}
use Rattle.kx_resolve.proofs.Visiting.{visits_next}
use Rattle.kx_resolve.proofs.finding.visit_level.Goals as goal

pub keysyms-preserved : goal.keysyms-preserved
keysyms-preserved c =
    let within : c.keysyms.keysym-index < length c.args.keysyms.now = c.keysyms-test.true in
    visits_next (get nat_eq c.args.firsts.now) (get nat_eq c.keysyms.firsts) (get nat_eq c.visit_keysym.new.firsts) c.args.keysyms.now c.keysyms.keysym-index c.args.place within c.keysyms.invariant c.visit_keysym.ensures
