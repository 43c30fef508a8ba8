use Rattle.kx_mods.specs.Mods.{mod_names}
use Rattle.kx_print.specs.Masks.{state_names}
use Rattle.kx_print.proofs.sets.Names.of.Goals as goal

pub name_of-requires : goal.name_of-requires
unfolding mod_names
name_of-requires c = rw c.in-Modifiers.is at c.requires

pub state_name-requires : goal.state_name-requires
unfolding state_names
state_name-requires c = rw c.in-States.is at c.requires
