use Rattle.kx_tables.specs.SoFar.{EachBelow}
use Rattle.kx_basics.specs.Keysyms.{IsKeysym}
use Rattle.kx_tables.proofs.check.cells.check_keysyms.Given as goal

abbrev pub invariant-loop-index : goal.invariant-loop-index
invariant-loop-index g l = EachBelow (g.R.Rows.content l.rows).keysyms (λ i s. IsKeysym s) l.index
