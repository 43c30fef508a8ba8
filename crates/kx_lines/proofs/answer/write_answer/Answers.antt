use Rattle.ks_core.proofs.BufferedOutLemmas.{writes_then}
use Rattle.kx_lines.specs.Answer.{answer_line}
use Rattle.kx_lines.proofs.answer.write_answer.Goals as goal

pub returns : goal.returns
unfolding answer_line
returns g c =
    writes_then g.O.Out.written g.O.Out.failures _ _ _ _ _ _ _ _ c.write_event.ensures (writes_then g.O.Out.written g.O.Out.failures _ _ _ _ _ _ _ _ c.write_keysyms.ensures c.write.ensures)
