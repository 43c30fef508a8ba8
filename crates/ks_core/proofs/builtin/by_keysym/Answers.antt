use Rattle.std.proofs.Common.{◌≡◌, true, refl}
use Rattle.ks_core.specs.BuiltIn.{built_in, built_in_runs, numbered, entries_of_run}
use Rattle.ks_core.proofs.IndexLemmas.{keysym_index, rises, climbs}
use Rattle.ks_core.proofs.builtin.by_keysym.Goals as goal

built_in_climbs : climbs 0 built_in ≡ true
unfolding climbs built_in built_in_runs numbered entries_of_run
built_in_climbs = refl

pub returns-clause-names : goal.returns-clause-names
unfolding built_in built_in_runs numbered entries_of_run
returns-clause-names c = refl

pub returns-clause-index : goal.returns-clause-index
unfolding rises
returns-clause-index c = keysym_index _ refl (returns-clause-names c) built_in_climbs
