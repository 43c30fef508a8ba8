use Rattle.std.proofs.Common.{ap, codes}
use Rattle.std.specs.List.{flat_map}
use Rattle.kx_print.specs.Masks.{mods_text}
use Rattle.kx_print.specs.Phrases.{quoted, setting}
use Rattle.kx_print.specs.Printed.{entry_lines, levels_line}
use Rattle.kx_print.proofs.Writing.{◌⨟◌, rewritten}
use Rattle.kx_client_text.specs.Written.{declared_block}
use Rattle.kx_client_text.proofs.types.write_declared.Goals as goal

pub returns : goal.returns
unfolding declared_block
returns g c =
    c.write.ensures ⨟ rewritten (ap quoted c.name.ensures) c.write_quoted.ensures ⨟ c.write-2.ensures
    ⨟ (rewritten (ap (λ mods. setting (codes "modifiers") (mods_text mods)) c.mods.ensures) c.write_mods_line.ensures
    ⨟ rewritten (ap (flat_map entry_lines) c.entries.ensures) c.write_entries.ensures
    ⨟ rewritten (ap levels_line c.levels.ensures) c.write_levels.ensures)
    ⨟ c.write-3.ensures
