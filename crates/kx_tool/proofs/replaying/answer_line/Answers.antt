use Rattle.std.proofs.Common.{sym, ap, subst}
use Rattle.ks_core.specs.BufferedOut.{Writes}
use Rattle.ks_core.proofs.BufferedOutLemmas.{writes_nothing}
use Rattle.kx_tables.specs.Keymap.{keymap_of}
use Rattle.kx_run.specs.Player.{Played}
use Rattle.kx_run.specs.Replies.{world_after}
use Rattle.kx_lines.specs.Answer.{answers_from}
use Rattle.kx_tool.proofs.Answering.{no_event}
use Rattle.kx_tool.proofs.replaying.answer_line.Goals as goal

pub returns-in-Nothing-clause-told : goal.returns-in-Nothing-clause-told
returns-in-Nothing-clause-told g c = λ text keeps.
    subst (λ es. Writes g.O.Out.written g.O.Out.failures c.args.out.now c.args.buffered.now c.args.out.now c.args.buffered.now (answers_from c.args.player.now.content c.args.names.now c.args.player.now.world es))
    (sym (no_event text (c.in-Nothing.ensures text keeps))) (writes_nothing g.O.Out.written g.O.Out.failures c.args.out.now c.args.buffered.now)

pub returns-in-Nothing-clause-world : goal.returns-in-Nothing-clause-world
returns-in-Nothing-clause-world g c = λ text keeps.
    ap (λ es. let p : Played = c.args.player.now in let q : Played = record p { world = world_after (keymap_of p.content) p.world es } in q) (sym (no_event text (c.in-Nothing.ensures text keeps)))
