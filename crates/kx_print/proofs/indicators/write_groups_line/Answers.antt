use Rattle.kx_print.proofs.Writing.{◌⨟◌}
use Rattle.kx_print.proofs.indicators.write_groups_line.Goals as goal

pub returns : goal.returns
returns g c = c.write.ensures ⨟ c.write_hexadecimal.ensures ⨟ c.write-2.ensures
