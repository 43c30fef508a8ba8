use Rattle.kx_print.specs.Printed.{printed}
use Rattle.kx_print.proofs.Writing.{◌⨟◌}
use Rattle.kx_print.proofs.printer.write_keymap.Goals as goal

pub returns : goal.returns
unfolding printed
returns g c = c.write.ensures ⨟ (c.write_keycodes.ensures ⨟ c.write_types.ensures ⨟ c.write_indicators.ensures ⨟ c.write_symbols.ensures) ⨟ c.write-2.ensures
