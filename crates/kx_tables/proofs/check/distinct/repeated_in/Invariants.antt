use Rattle.std.proofs.Common.{◌≢◌, ℕ, ◌<◌, ◌+◌, get_or}
use Rattle.kx_tables.proofs.check.distinct.repeated_in.Given as goal

-- no two neighbours before the index have one name
abbrev pub invariant-loop-index : goal.invariant-loop-index
invariant-loop-index g l = (k : ℕ) → k + 1 < l.index → g.L.NameList.name l.list (get_or l.order k 0) ≢ g.L.NameList.name l.list (get_or l.order (k + 1) 0)
