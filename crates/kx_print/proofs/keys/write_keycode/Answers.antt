use Rattle.kx_print.proofs.Writing.{◌⨟◌}
use Rattle.kx_print.proofs.keys.write_keycode.Goals as goal

pub returns : goal.returns
returns g c = c.write_key_word.ensures ⨟ c.write.ensures ⨟ c.write_number.ensures ⨟ c.write-2.ensures
