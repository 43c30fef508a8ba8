use Rattle.std.proofs.Common.{ap}
use Rattle.kx_print.specs.Printed.{bracketed, key_block}
use Rattle.kx_print.proofs.Writing.{◌⨟◌, rewritten}
use Rattle.kx_print.proofs.keys.write_key.Goals as goal

pub returns : goal.returns
unfolding key_block
returns g c = c.write.ensures ⨟ (rewritten (ap bracketed c.requires.name) c.write_key_word.ensures) ⨟ c.write-2.ensures ⨟ c.write_fields.ensures ⨟ c.write-3.ensures
