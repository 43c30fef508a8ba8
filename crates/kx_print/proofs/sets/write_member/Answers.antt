use Rattle.kx_print.proofs.Writing.{◌⨟◌, rewritten}
use Rattle.kx_print.proofs.sets.write_member.Goals as goal

pub returns : goal.returns
returns g c = c.write.ensures ⨟ (rewritten c.as_bytes.ensures.value c.write-2.ensures)
