use Rattle.std.proofs.Common.{◌≡◌, length}
use Rattle.ks_core.proofs.DeviceLemmas.{PutSoFar}
use Rattle.ks_core.proofs.buffered_out.put_all.Given as goal

-- a beginning is put, the rest is left, and no call failed
abbrev pub invariant-loop-rest : goal.invariant-loop-rest
invariant-loop-rest g l =
    PutSoFar (g.O.Out.written l.fn.out) (g.O.Out.written l.out) l.fn.text l.rest × (g.O.Out.failures l.out ≡ g.O.Out.failures l.fn.out)

abbrev pub decreases-loop-rest : goal.decreases-loop-rest
decreases-loop-rest g l = length l.rest
