use Rattle.std.proofs.Common.{arith, ap, ℕ, ◌+◌, ◌*◌, ◌∙◌, get_or}
use Rattle.kx_image.proofs.Counting.{groups_step}
use Rattle.kx_image.proofs.shape.count_groups.Goals as goal

pub loop-index-preserved : goal.loop-index-preserved
loop-index-preserved c = record {
  small = omega arith;
  total = groups_step c.args.keys c.loop-index.index c.args.start c.loop-index.groups _ c.args.bytes.now c.loop-index-test.true c.loop-index.invariant.total (c.from-groups.ensures ∙ ap (λ (i : ℕ). get_or c.args.bytes.now (c.args.start + 16 * i + 5) 0) c.from.ensures);
}
