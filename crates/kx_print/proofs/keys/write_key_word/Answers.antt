use Rattle.kx_print.proofs.Writing.{◌⨟◌}
use Rattle.kx_print.proofs.keys.write_key_word.Goals as goal

pub returns : goal.returns
returns g c = c.write.ensures ⨟ c.write-2.ensures ⨟ c.write-3.ensures
