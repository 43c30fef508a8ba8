use Rattle.std.proofs.Common.{◌≡◌, ℕ, ◌<◌, ◌≤◌, ◌==◌, slice_index, if◌then◌else◌}
use Rattle.std.specs.Int.{bit_at}
use Rattle.kx_run.proofs.counts.counted_mods.Given as goal

abbrev pub invariant-loop-i : goal.invariant-loop-i
invariant-loop-i l = record {
  done : (k : ℕ) → k < l.i → bit_at l.bits k ≡ (if slice_index l.counts k == 0 then 0 else 1);
  rest : (k : ℕ) → l.i ≤ k → bit_at l.bits k ≡ 0;
}
