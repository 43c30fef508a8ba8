use Rattle.std.proofs.Common.{subst}
use Rattle.ks_core.specs.BufferedOut.{Gathered, Writes}
use Rattle.ks_core.proofs.BufferedOutLemmas.{writes_finish}
use Rattle.kx_mods.specs.Mods.{mask}
use Rattle.kx_run.specs.Replies.{told}
use Rattle.kx_lines.specs.Answer.{unlit_tail}
use Rattle.kx_lines.proofs.tails.put_unlit.Goals as goal

pub returns : goal.returns
returns g c =
    let text = unlit_tail (mask c.args.shown.consumed) (told c.args.shown.state) in
    writes_finish g.O.Out.written g.O.Out.failures c.args.out.now c.write_unlit.new.out c.finish.new.out c.write_unlit.new.buffered c.finish.result text
    (subst (λ (p : Gathered). Writes g.O.Out.written g.O.Out.failures c.args.out.now p c.write_unlit.new.out c.write_unlit.new.buffered text) c.new-buffered.ensures c.write_unlit.ensures) c.finish.ensures
