use Rattle.std.proofs.Common.{decimal, ap}
use Rattle.kx_print.specs.Printed.{entry_lines}
use Rattle.kx_print.proofs.Writing.{◌⨟◌, rewritten}
use Rattle.kx_print.proofs.types.write_entry.Goals as goal

pub returns : goal.returns
unfolding entry_lines
returns g c = (c.write.ensures ⨟ c.write_mods.ensures ⨟ c.write-2.ensures ⨟ (rewritten (ap decimal c.from.ensures) c.write_number.ensures) ⨟ c.write-3.ensures) ⨟ c.write_preserved.ensures
