use Rattle.std.proofs.Common.{◌∙◌, ap}
use Rattle.kx_run.specs.Held.{is_held}
use Rattle.kx_run.specs.World.{World}
use Rattle.kx_run.proofs.HeldLists.{is_held-disturbed}
use Rattle.kx_run.proofs.keyboard.Keyboard.press.Goals as goal

pub hold-requires-clause-new_code : goal.hold-requires-clause-new_code
hold-requires-clause-new_code c =
    let held = ap (λ (w : World). w.held) c.self.view_is in
    ap (is_held c.args.code) c.disturb.ensures.value
    ∙ is_held-disturbed c.args.code c.self.inside.held
    ∙ ap (is_held c.args.code) held
    ∙ c.requires.new_code
