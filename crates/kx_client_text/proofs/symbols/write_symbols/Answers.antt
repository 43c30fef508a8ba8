use Rattle.kx_print.proofs.Writing.{◌⨟◌}
use Rattle.kx_client_text.specs.Written.{symbols_text}
use Rattle.kx_client_text.proofs.symbols.write_symbols.Goals as goal

pub returns : goal.returns
unfolding symbols_text
returns g c = c.write.ensures ⨟ (c.write_group_names.ensures ⨟ c.write_each_key.ensures ⨟ c.write_modifier_maps.ensures) ⨟ c.write-2.ensures
