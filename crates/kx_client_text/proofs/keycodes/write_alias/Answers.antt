use Rattle.std.proofs.Common.{ap}
use Rattle.kx_print.specs.Printed.{bracketed}
use Rattle.kx_print.proofs.Writing.{◌⨟◌, rewritten}
use Rattle.kx_client_text.specs.Written.{alias_line}
use Rattle.kx_client_text.proofs.keycodes.write_alias.Goals as goal

pub returns : goal.returns
unfolding alias_line
returns g c =
    (c.write.ensures ⨟ rewritten (ap bracketed c.as_slice.ensures) c.write_key_word.ensures)
    ⨟ c.write-2.ensures ⨟ rewritten (ap bracketed c.as_slice-2.ensures) c.write_key_word-2.ensures ⨟ c.write-3.ensures
