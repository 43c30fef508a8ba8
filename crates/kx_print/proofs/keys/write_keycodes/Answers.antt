use Rattle.kx_print.specs.Printed.{keycodes_section}
use Rattle.kx_print.proofs.Writing.{◌⨟◌}
use Rattle.kx_print.proofs.keys.write_keycodes.Goals as goal

pub returns : goal.returns
unfolding keycodes_section
returns g c = c.write.ensures ⨟ c.write_each_keycode.ensures ⨟ c.write-2.ensures
