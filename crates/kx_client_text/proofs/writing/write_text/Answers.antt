use Rattle.std.proofs.Common.{subst}
use Rattle.ks_core.specs.BufferedOut.{Gathered, Writes}
use Rattle.ks_core.proofs.BufferedOutLemmas.{writes_finish}
use Rattle.kx_client_text.specs.Written.{client_printed}
use Rattle.kx_client_text.proofs.writing.write_text.Goals as goal

pub returns : goal.returns
returns g c =
    let text = client_printed (g.T.Rows.content c.args.tables.now) c.args.left.now in
    writes_finish g.O.Out.written g.O.Out.failures c.args.out.now c.write_keymap.new.out c.finish.new.out c.write_keymap.new.buffered c.finish.result text
    (subst (λ (p : Gathered). Writes g.O.Out.written g.O.Out.failures c.args.out.now p c.write_keymap.new.out c.write_keymap.new.buffered text) c.new-buffered.ensures c.write_keymap.ensures) c.finish.ensures
