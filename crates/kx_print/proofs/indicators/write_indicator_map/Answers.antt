use Rattle.kx_print.specs.Printed.{indicator_map_lines}
use Rattle.kx_print.proofs.Writing.{◌⨟◌}
use Rattle.kx_print.proofs.indicators.write_indicator_map.Goals as goal

pub returns : goal.returns
unfolding indicator_map_lines
returns g c = c.write_states_line.ensures ⨟ c.write_mods_line.ensures ⨟ c.write_states_line-2.ensures ⨟ c.write_groups_line.ensures
