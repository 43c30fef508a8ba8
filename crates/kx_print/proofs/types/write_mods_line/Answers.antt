use Rattle.kx_print.proofs.Writing.{◌⨟◌}
use Rattle.kx_print.proofs.types.write_mods_line.Goals as goal

pub returns : goal.returns
returns g c = c.write.ensures ⨟ c.write_mods.ensures ⨟ c.write-2.ensures
