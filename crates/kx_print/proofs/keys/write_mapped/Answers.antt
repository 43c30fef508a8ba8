use Rattle.kx_print.proofs.Writing.{◌⨟◌, rewritten}
use Rattle.kx_print.proofs.keys.write_mapped.Goals as goal

pub returns : goal.returns
returns g c = c.write.ensures ⨟ (rewritten c.as_bytes.ensures.value c.write-2.ensures) ⨟ c.write-3.ensures ⨟ c.write_key_word.ensures ⨟ c.write-4.ensures
