use Rattle.std.proofs.Common.{ap, subst}
use Rattle.kx_run.specs.Held.{AreSound}
use Rattle.kx_run.specs.World.{World}
use Rattle.kx_run.proofs.HeldLists.{bounded_from}
use Rattle.kx_run.proofs.keyboard.Keyboard.bounds.Goals as goal

pub returns : goal.returns
returns c =
    let held = ap (λ (w : World). w.held) c.self.view_is in
    bounded_from c.args.self.now (subst AreSound held c.group-sound.ensures.sound)
