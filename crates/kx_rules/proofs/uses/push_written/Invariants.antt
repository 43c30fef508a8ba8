use Rattle.std.proofs.Common.{◌≡◌, ◌++◌, length}
use Rattle.kx_rules.specs.Uses.{written}
use Rattle.kx_rules.proofs.uses.push_written.Given as goal

abbrev pub invariant-bytes : goal.invariant-bytes
invariant-bytes l = l.taken.items ++ written l.names l.rest ≡ l.initial.taken.items ++ written l.names l.value

abbrev pub decreases-bytes : goal.decreases-bytes
decreases-bytes l = length l.rest
