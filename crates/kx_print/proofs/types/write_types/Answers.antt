use Rattle.kx_print.specs.Printed.{types_section}
use Rattle.kx_print.proofs.Writing.{◌⨟◌}
use Rattle.kx_print.proofs.types.write_types.Goals as goal

pub returns : goal.returns
unfolding types_section
returns g c = c.write.ensures ⨟ c.write_each_type.ensures ⨟ c.write-2.ensures
