use Rattle.std.proofs.Common.{◌∙◌, ap, arith, is_some}
use Rattle.kx_run.specs.Held.{is_held}
use Rattle.kx_run.proofs.Entries.{is_placed, read_place}
use Rattle.kx_run.proofs.presses.Presses.is_held.Goals as goal

pub returns : goal.returns
returns c =
    let es = c.self.inside.entries.items in
    let read = read_place c.self.inside.places.items es c.args.code c.from.result c.index.result.now c.self.invariant.places (omega (arith, c.self.invariant.long, c.requires)) c.from.ensures c.index.ensures in
    c.is_some.ensures ∙ ap is_some read ∙ is_placed c.args.code es ∙ ap (is_held c.args.code) c.self.view_is
