use Rattle.ks_core.proofs.BufferedOutLemmas.{writes_then}
use Rattle.kx_lines.proofs.answer.write_event.Goals as goal

pub returns-in-Down : goal.returns-in-Down
returns-in-Down g c = rw c.in-Down.is (writes_then g.O.Out.written g.O.Out.failures _ _ _ _ _ _ _ _ c.write_number.ensures c.write.ensures)

pub returns-in-Up : goal.returns-in-Up
returns-in-Up g c = rw c.in-Up.is (writes_then g.O.Out.written g.O.Out.failures _ _ _ _ _ _ _ _ c.write_number.ensures c.write-in-Up.ensures)
