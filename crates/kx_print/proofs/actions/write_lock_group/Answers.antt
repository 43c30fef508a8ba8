use Rattle.kx_print.proofs.Writing.{◌⨟◌}
use Rattle.kx_print.proofs.actions.write_lock_group.Goals as goal

pub returns : goal.returns
returns g c = c.write.ensures ⨟ c.write_change.ensures ⨟ c.write-2.ensures
