use Rattle.std.proofs.Common.{◌≡◌, All, Some, take}
use Rattle.kx_merge.specs.Moved.{moved_key}
use Rattle.kx_merge.proofs.merging.are_kept.Given as goal

abbrev pub invariant-keys : goal.invariant-keys
invariant-keys g l = All (λ key. moved_key g.R.Fields.moves l.group key ≡ Some key) (take l.key-index l.keys)
