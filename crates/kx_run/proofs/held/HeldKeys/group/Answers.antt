use Rattle.kx_run.proofs.HeldLists.{kept_group, small_group}
use Rattle.kx_run.proofs.held.HeldKeys.group.Goals as goal

pub returns-clause-low : goal.returns-clause-low
returns-clause-low c =
    rw (kept_group c.self.inside.keys c.self.inside.group c.self.invariant.sound c.self.invariant.group) (small_group c.self.inside.keys c.self.invariant.sound).low

pub returns-clause-high : goal.returns-clause-high
returns-clause-high c =
    rw (kept_group c.self.inside.keys c.self.inside.group c.self.invariant.sound c.self.invariant.group) (small_group c.self.inside.keys c.self.invariant.sound).high
