use Rattle.std.proofs.Common.{◌+◌, ◌-◌, drop, take, refl, subst}
use Rattle.kx_lines.specs.Input.{Waiting}
use Rattle.kx_lines.specs.LineParts.{MovesPart}
use Rattle.kx_lines.proofs.Waits.{before_feed, waits_split}
use Rattle.kx_lines.proofs.input.Input.fill_line.Goals as goal

pub returns : goal.returns
returns c =
    let chunk = c.self.inside.chunk in
    let start = c.self.inside.start in
    let stop = c.self.inside.stop in
    let count = c.before_line_feed-count.result in
    subst (λ (w : Waiting). MovesPart w (record { bytes = drop (start + count) (take stop chunk); allowance = c.self.inside.allowance }) c.args.line.now c.push_all.new.self) c.self.view_is (record {
      part = take count (take (stop - start) (drop start chunk));
      moved = waits_split chunk start stop count c.self.invariant.0;
      allowed = refl;
      free = before_feed _ _ c.before_line_feed-count.ensures.value;
      keeps = c.push_all.ensures;
    })
