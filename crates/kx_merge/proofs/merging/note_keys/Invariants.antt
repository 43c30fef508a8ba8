use Rattle.std.proofs.Common.{◌≡◌, ◌++◌, take}
use Rattle.std.specs.Map.{keys_of}
use Rattle.kx_merge.proofs.merging.note_keys.Given as goal

abbrev pub invariant-records : goal.invariant-records
invariant-records g l = l.replaced.items ≡ l.initial.replaced.items ++ keys_of (take l.entry-index l.given)
