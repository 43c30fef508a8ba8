use Rattle.kx_client_text.specs.Written.{compat_text}
use Rattle.kx_print.proofs.Writing.{◌⨟◌}
use Rattle.kx_client_text.proofs.compat.write_compat.Goals as goal

pub returns : goal.returns
unfolding compat_text
returns g c = c.write.ensures ⨟ (c.write-2.ensures ⨟ c.write_each_indicator.ensures) ⨟ c.write-3.ensures
