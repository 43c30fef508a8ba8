use Rattle.std.proofs.Common.{◌≡◌, ℕ, ◌+◌, ◌<◌, ◌≤◌, slice_index, length}
use Rattle.std.specs.Int.{bit_at}
use Rattle.kx_mods.specs.Mods.{mask}
use Rattle.kx_run.proofs.counts.uncounted.Given as goal

abbrev pub invariant-loop-i : goal.invariant-loop-i
invariant-loop-i l = record {
  done : (k : ℕ) → k < l.i → slice_index l.counts k + bit_at (mask l.fn.mods) k ≡ slice_index l.fn.old k;
  rest : (k : ℕ) → l.i ≤ k → k < 8 → slice_index l.counts k ≡ slice_index l.fn.old k;
  long : length l.counts ≡ 8;
  bits : l.bits ≡ mask l.fn.mods;
}
