use Rattle.std.proofs.Common.{decimal, ap}
use Rattle.kx_print.specs.Printed.{levels_line}
use Rattle.kx_print.proofs.Writing.{◌⨟◌, rewritten}
use Rattle.kx_print.proofs.types.write_levels.Goals as goal

pub returns : goal.returns
unfolding levels_line
returns g c = c.write.ensures ⨟ (rewritten (ap decimal c.from.ensures) c.write_number.ensures) ⨟ c.write-2.ensures
