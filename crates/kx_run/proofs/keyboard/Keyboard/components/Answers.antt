use Rattle.std.proofs.Common.{ap, subst}
use Rattle.kx_run.specs.Held.{AreSound}
use Rattle.kx_run.specs.World.{World}
use Rattle.kx_run.proofs.HeldLists.{bounded_from}
use Rattle.kx_run.proofs.keyboard.Keyboard.components.Goals as goal

pub returns-clause-bounded : goal.returns-clause-bounded
returns-clause-bounded c =
    let held = ap (λ (w : World). w.held) c.self.view_is in
    bounded_from c.args.self.now (subst AreSound held c.group.ensures.sound)
