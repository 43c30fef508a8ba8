use Rattle.std.proofs.Common.{refl}
use Rattle.ks_core.specs.BuiltIn.{numbered, entries_of_run}
use Rattle.ks_core.specs.X11.{x11_runs, x11_firsts}
use Rattle.ks_core.proofs.RisingLemmas.{rises_from, rising}
use Rattle.ks_core.proofs.x11.firsts.Goals as goal

pub returns-clause-keysyms : goal.returns-clause-keysyms
unfolding x11_runs numbered entries_of_run x11_firsts
returns-clause-keysyms c = refl

pub returns-clause-rising : goal.returns-clause-rising
unfolding rises_from
returns-clause-rising c = rising _ refl
