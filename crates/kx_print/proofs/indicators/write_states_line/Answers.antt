use Rattle.kx_print.proofs.Writing.{◌⨟◌}
use Rattle.kx_print.proofs.indicators.write_states_line.Goals as goal

pub returns : goal.returns
returns g c = c.write.ensures ⨟ c.write-2.ensures ⨟ c.write_states.ensures ⨟ c.write-3.ensures
