use Rattle.kx_tables.specs.SoFar.{KeysAre}
use Rattle.kx_tables.proofs.check.keys.check_keys.Given as goal

abbrev pub invariant-loop-index : goal.invariant-loop-index
invariant-loop-index g l = KeysAre (g.R.Rows.content l.rows) l.index l.groups l.names l.next
