use Rattle.std.proofs.Common.{refl}
use Rattle.kx_run.specs.Replies.{answered}
use Rattle.kx_lines.proofs.TailTexts.{writes_unlit}
use Rattle.kx_lines.proofs.tails.Tails.write.Goals as goal

pub returns-then-write_unlit : goal.returns-then-write_unlit
returns-then-write_unlit g c =
    writes_unlit g.O.Out.written g.O.Out.failures _ _ _ _ (g.T.Rows.content c.args.tables.now) (answered c.args.reply.now) c.if-reply-eq0.true (c.if-write_unlit.ensures.written refl)
