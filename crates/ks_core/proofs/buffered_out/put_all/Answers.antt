use Rattle.std.proofs.Common.{refl, ◌∙◌}
use Rattle.ks_core.proofs.DeviceLemmas.{PutSoFar-nothing, PutSoFar-more}
use Rattle.ks_core.proofs.buffered_out.put_all.Goals as goal

pub loop-rest-init : goal.loop-rest-init
loop-rest-init g c = (PutSoFar-nothing _ _, refl)

pub loop-rest-preserved : goal.loop-rest-preserved
loop-rest-preserved g c =
    let i = c.loop-rest.invariant in (
      rw c.split_at.ensures.back (PutSoFar-more _ _ _ _ _ c.in_ok-n.n i.0 c.in_ok-n.ensures.bytes),
      c.in_ok-n.ensures.counted ∙ i.1,
    )
