use Rattle.std.proofs.Common.{ap}
use Rattle.kx_print.specs.Phrases.{quoted}
use Rattle.kx_print.specs.Printed.{type_block}
use Rattle.kx_print.proofs.Writing.{◌⨟◌, rewritten}
use Rattle.kx_print.proofs.types.write_type.Goals as goal

pub returns : goal.returns
unfolding type_block
returns g c = c.write.ensures ⨟ (rewritten (ap quoted c.requires.name) c.write_quoted.ensures) ⨟ c.write-2.ensures ⨟ (c.write_mods_line.ensures ⨟ c.write_entries.ensures ⨟ c.write_levels.ensures) ⨟ c.write-3.ensures
