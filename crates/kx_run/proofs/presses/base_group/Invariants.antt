use Rattle.std.proofs.Common.{◌≡◌, take}
use Rattle.kx_run.specs.Held.{base_group}
use Rattle.kx_run.specs.Presses.{keys_of}
use Rattle.kx_run.proofs.presses.base_group.Given as goal

abbrev pub invariant-loop-entry : goal.invariant-loop-entry
invariant-loop-entry l = l.group ≡ base_group (keys_of (take l.entry-index l.entries))
