use Rattle.std.proofs.Common.{◌≤◌}
use Rattle.kx_tables.specs.SoFar.{EachBelow}
use Rattle.kx_tables.proofs.owned.unfit.Given as goal

-- no key before the index has too many groups
abbrev pub invariant-loop-index : goal.invariant-loop-index
invariant-loop-index l = EachBelow l.parts.keys.items (λ i k. k.groups ≤ 32) l.index
