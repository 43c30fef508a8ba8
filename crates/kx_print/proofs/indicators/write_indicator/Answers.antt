use Rattle.kx_print.proofs.Writing.{◌⨟◌}
use Rattle.kx_print.proofs.indicators.write_indicator.Goals as goal

pub returns : goal.returns
returns g c = c.write.ensures ⨟ c.write_quoted.ensures ⨟ c.write-2.ensures ⨟ c.write_indicator_map.ensures ⨟ c.write-3.ensures
