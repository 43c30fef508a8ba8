use Rattle.std.proofs.Common.{◌<◌, ◌≢◌, length, arith, get_or-set_other, get_or-set_same, below_more, length-set}
use Rattle.std.proofs.lemmas.Nat.Bits.{shr_and_one}
use Rattle.kx_run.proofs.counts.counted.Goals as goal

pub loop-i-preserved : goal.loop-i-preserved
loop-i-preserved c =
    let at = shr_and_one c.mask-bits.result c.loop-i.i in
    let within : c.loop-i.i < length c.loop-i.counts = omega (arith, c.loop-i.invariant.long) in
    let before = c.loop-i.invariant.rest c.loop-i.i (omega arith) c.loop-i-test.true in
    let value = c.mask-bits.ensures.value in
    record {
      done = below_more _ _
          (λ k h. let ne : k ≢ c.loop-i.i = omega arith in rw get_or-set_other (c.loop-i.invariant.done k h))
          (rw get_or-set_same (rw (before, c.from.ensures, at, value)));
      rest = λ k low high. let ne : k ≢ c.loop-i.i = omega arith in rw get_or-set_other (c.loop-i.invariant.rest k (omega arith) high);
      long = simp length-set c.loop-i.invariant.long;
      bits = c.loop-i.invariant.bits;
    }
