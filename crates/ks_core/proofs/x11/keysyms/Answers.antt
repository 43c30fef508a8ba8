use Rattle.std.proofs.Common.{refl}
use Rattle.ks_core.specs.BuiltIn.{numbered, entries_of_run}
use Rattle.ks_core.specs.X11.{x11_runs, x11_others, x11_firsts, x11_seconds, underscored, x11_names}
use Rattle.ks_core.proofs.x11.keysyms.Goals as goal

pub returns : goal.returns
unfolding x11_runs x11_others numbered entries_of_run x11_firsts x11_seconds underscored x11_names
returns c = refl
