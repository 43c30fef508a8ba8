use Rattle.kx_print.proofs.Writing.{◌⨟◌}
use Rattle.kx_print.proofs.fields.write_type_field.Goals as goal

pub returns : goal.returns
returns g c = c.write.ensures ⨟ c.write_number.ensures ⨟ c.write-2.ensures ⨟ c.write_quoted.ensures
