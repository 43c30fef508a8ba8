use Rattle.kx_modmaps.proofs.Same.{added}
use Rattle.kx_modmaps.proofs.entries.add_target.Goals as goal

pub returns-in_ok-add-clause-added : goal.returns-in_ok-add-clause-added
returns-in_ok-add-clause-added c = added c.args.targets.now c.add.new.self c.args.target c.in-Some.target c.in-Some.is c.in_ok-add.ensures.added
