use Rattle.ks_core.proofs.X11Lemmas.{all_sound}
use Rattle.ks_core.proofs.names.NameTable.x11.Goals as goal

pub invariant_of-result : goal.invariant_of-result
invariant_of-result c = all_sound
