use Rattle.std.proofs.Common.{refl}
use Rattle.ks_core.specs.BuiltIn.{built_in, built_in_runs, numbered, entries_of_run}
use Rattle.ks_core.specs.HashIndex.{hash_of, slot_of}
use Rattle.ks_core.proofs.IndexLemmas.{hash_index, is_keysym}
use Rattle.ks_core.proofs.builtin.by_hash.Goals as goal

pub returns : goal.returns
unfolding is_keysym built_in built_in_runs numbered entries_of_run hash_of slot_of
returns c = hash_index _ _ refl refl refl refl
