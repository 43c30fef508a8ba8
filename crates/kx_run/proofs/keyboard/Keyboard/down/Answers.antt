use Rattle.std.proofs.Common.{◌∙◌, ap}
use Rattle.kx_run.specs.Replies.{status_of}
use Rattle.kx_run.specs.World.{pressed}
use Rattle.kx_run.proofs.Still.{pressed_still}
use Rattle.kx_run.proofs.keyboard.Keyboard.down.Goals as goal

pub returns-then-not-is_held-clause-still : goal.returns-then-not-is_held-clause-still
returns-then-not-is_held-clause-still c = λ unchanged.
    let why = c.changes_by_press-changes.ensures in
    let world = c.args.self.now in
    ap (status_of c.args.groups) c.press.ensures
    ∙ ap (λ action. status_of c.args.groups (pressed c.args.groups c.args.code action world)) (why.action unchanged)
    ∙ pressed_still c.args.groups c.args.code world (why.mods unchanged) (why.group unchanged)
