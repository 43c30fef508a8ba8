use Rattle.std.proofs.Common.{refl}
use Rattle.ks_core.specs.BuiltIn.{numbered, entries_of_run}
use Rattle.ks_core.specs.X11.{x11_runs, x11_others, x11_firsts, x11_seconds, underscored, x11_names}
use Rattle.ks_core.specs.X11Index.{hash_of, slot_of, in_slot, place_of, all_placed}
use Rattle.ks_core.proofs.x11.by_hash.Goals as goal

pub returns : goal.returns
unfolding x11_runs x11_others numbered entries_of_run x11_firsts x11_seconds underscored x11_names hash_of slot_of in_slot place_of all_placed
returns c = record { shifted = refl; slotted = refl; placed = refl }
