use Rattle.kx_print.proofs.Writing.{◌⨟◌, rewritten}
use Rattle.kx_client_text.specs.Written.{modifier_text}
use Rattle.kx_client_text.proofs.types.write_modifier.Goals as goal

pub returns : goal.returns
unfolding modifier_text
returns g c = rewritten c.as_slice.ensures c.write.ensures ⨟ c.write_stand.ensures
