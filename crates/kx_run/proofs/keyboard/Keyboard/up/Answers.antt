use Rattle.std.proofs.Common.{◌∙◌, ap, sym}
use Rattle.kx_run.specs.Replies.{status_of}
use Rattle.kx_run.proofs.Still.{released_still}
use Rattle.kx_run.proofs.keyboard.Keyboard.up.Goals as goal

pub returns-in-Some-clause-still : goal.returns-in-Some-clause-still
returns-in-Some-clause-still c = λ unchanged.
    ap (status_of c.args.groups) c.in-Some.ensures.world
    ∙ released_still c.args.groups c.args.code c.args.self.now c.in-Some.key c.in-Some.ensures.distinct (sym c.in-Some.ensures.key) (c.acts.ensures.0 unchanged)
