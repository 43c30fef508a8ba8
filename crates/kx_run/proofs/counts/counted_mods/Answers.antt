use Rattle.std.proofs.Common.{◌≡◌, ℕ, ◌<◌, ◌≢◌, arith, cond, eqb, w8, below_more, sym, ◌∙◌}
use Rattle.std.proofs.lemmas.Bool.Decides.{nat_tests}
use Rattle.std.proofs.lemmas.Nat.Bits.{bit_at_set_same, bit_at_set_other}
use Rattle.kx_run.proofs.counts.counted_mods.Goals as goal
use Rattle.kx_run.proofs.counts.counted_mods.Goals.{then-counts-i-gt0, else-counts-i-gt0}

is_one : (n : ℕ) → 0 < n → cond {A = ℕ} (eqb n 0) 0 1 ≡ 1
is_one n h = grind (arith, nat_tests)

is_zero : (n : ℕ) → n ≡ 0 → cond {A = ℕ} (eqb n 0) 0 1 ≡ 0
is_zero n h = grind (arith, nat_tests)

pub loop-i-preserved : goal.loop-i-preserved
loop-i-preserved c =
    let within = c.loop-i-test.true in
    elim c.if-counts-i-gt0.branch [
      | then-counts-i-gt0 w ↦ record {
        done = below_more _ _
            (λ k h. let ne : k ≢ c.loop-i.i = omega arith in rw w.bits-is (bit_at_set_other w8 c.loop-i.bits c.loop-i.i within k ne ∙ c.loop-i.invariant.done k h))
            (rw w.bits-is (bit_at_set_same w8 c.loop-i.bits c.loop-i.i within ∙ sym (is_one _ w.if-counts-i-gt0.true)));
        rest = λ k low. let ne : k ≢ c.loop-i.i = omega arith in rw w.bits-is (bit_at_set_other w8 c.loop-i.bits c.loop-i.i within k ne ∙ c.loop-i.invariant.rest k (omega arith));
      }
      | else-counts-i-gt0 w ↦ record {
        done = below_more _ _
            (λ k h. rw w.bits-is (c.loop-i.invariant.done k h))
            (rw w.bits-is (c.loop-i.invariant.rest _ (omega arith) ∙ sym (is_zero _ (omega (arith, w.if-counts-i-gt0.false)))));
        rest = λ k low. rw w.bits-is (c.loop-i.invariant.rest k (omega arith));
      }
    ]
