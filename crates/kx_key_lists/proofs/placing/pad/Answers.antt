use Rattle.std.proofs.Common.{None, ap, ◌∙◌, arith}
use Rattle.kx_key_lists.specs.Lists.{widened_to}
use Rattle.kx_key_lists.proofs.Widening.{widen_goes}
use Rattle.kx_key_lists.proofs.placing.pad.Goals as goal

pub groups-preserved : goal.groups-preserved
groups-preserved t c = ap (widened_to c.args.count) c.in_ok-push.ensures.items ∙ widen_goes c.groups.lists.items None c.args.count (let size = c.len.ensures in let more = c.groups-test.true in omega (arith, size, more)) ∙ c.groups.invariant
