use Rattle.kx_print.proofs.Writing.{◌⨟◌}
use Rattle.kx_print.proofs.words.write_quoted.Goals as goal

pub returns : goal.returns
returns g c = c.write.ensures ⨟ c.write_printed_name.ensures ⨟ c.write-2.ensures
