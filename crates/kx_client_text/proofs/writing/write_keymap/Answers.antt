use Rattle.kx_client_text.specs.Written.{client_printed}
use Rattle.kx_print.proofs.Writing.{◌⨟◌}
use Rattle.kx_client_text.proofs.writing.write_keymap.Goals as goal

pub returns : goal.returns
unfolding client_printed
returns g c = c.write.ensures ⨟ (c.write_keycodes.ensures ⨟ c.write_types.ensures ⨟ c.write_compat.ensures ⨟ c.write_symbols.ensures) ⨟ c.write-2.ensures
