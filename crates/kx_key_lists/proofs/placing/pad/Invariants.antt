use Rattle.std.proofs.Common.{◌≡◌, ◌-◌, length}
use Rattle.kx_key_lists.specs.Lists.{widened_to}
use Rattle.kx_key_lists.proofs.placing.pad.Given as goal

abbrev pub invariant-groups : goal.invariant-groups
invariant-groups t l = widened_to l.count l.lists.items ≡ widened_to l.count l.initial.lists.items

abbrev pub decreases-groups : goal.decreases-groups
decreases-groups t l = l.count - length l.lists.items
