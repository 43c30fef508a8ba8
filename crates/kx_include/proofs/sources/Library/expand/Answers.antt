use Rattle.kx_include.proofs.Complete.{nothing_left_out}
use Rattle.kx_include.proofs.Standing.{bodies-standing, fault-standing, whole-standing}
use Rattle.kx_include.proofs.sources.Library.expand.Goals as goal

pub returns-clause-whole : goal.returns-clause-whole
returns-clause-whole c = whole-standing c.args.self.now c.expand_held.result c.expand_held.ensures.whole

pub returns-clause-bodies : goal.returns-clause-bodies
returns-clause-bodies c = bodies-standing c.args.self.now c.expand_held.result c.expand_held.ensures.bodies

pub returns-clause-complete : goal.returns-clause-complete
returns-clause-complete c = nothing_left_out

pub returns-clause-fault : goal.returns-clause-fault
returns-clause-fault c = fault-standing c.args.self.now c.expand_held.result c.expand_held.ensures.fault
