use Rattle.std.proofs.Common.{◌++◌, ap, codes}
use Rattle.kx_print.proofs.Writing.{◌⨟◌, rewritten}
use Rattle.kx_client_text.specs.Written.{repeat_field}
use Rattle.kx_client_text.proofs.symbols.write_repeat.Goals as goal

pub returns : goal.returns
unfolding repeat_field
returns g c = rewritten (ap (λ word. codes "\nrepeat= " ++ word) c.repeat_word.ensures) (c.write.ensures ⨟ c.write-2.ensures)
