use Rattle.std.proofs.Common.{ap}
use Rattle.std.specs.List.{flat_map}
use Rattle.kx_client_text.specs.Written.{alias_line, keycodes_text}
use Rattle.kx_print.proofs.Writing.{◌⨟◌, rewritten}
use Rattle.kx_client_text.proofs.keycodes.write_keycodes.Goals as goal

pub returns : goal.returns
unfolding keycodes_text
returns g c =
    c.write.ensures
    ⨟ (c.write_each_keycode.ensures ⨟ c.write_indicator_names.ensures ⨟ rewritten (ap (flat_map alias_line) c.aliases.ensures) c.write_aliases.ensures)
    ⨟ c.write-2.ensures
