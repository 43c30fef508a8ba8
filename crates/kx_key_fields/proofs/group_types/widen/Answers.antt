use Rattle.std.proofs.Common.{None, ap, ◌∙◌, arith}
use Rattle.kx_key_fields.specs.Attributes.{widened_to}
use Rattle.kx_key_fields.proofs.group_types.widen.Goals as goal
use Rattle.kx_key_lists.proofs.Widening.{widen_goes}

pub groups-preserved : goal.groups-preserved
groups-preserved c = ap (widened_to c.args.count) c.in_ok-push.ensures.items ∙ widen_goes c.groups.types.items None c.args.count (let size = c.len.ensures in let more = c.groups-test.true in omega (arith, size, more)) ∙ c.groups.invariant
