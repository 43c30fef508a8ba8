use Rattle.std.proofs.Common.{◌≡◌, ap, ◌∙◌, arith}
use Rattle.kx_keys.specs.Given.{given}
use Rattle.kx_keys.specs.GroupTypes.{groups_within}
use Rattle.kx_keys.proofs.Counting.{count_few, within_few}
use Rattle.kx_keys.proofs.group_types.group_count.Goals as goal

pub returns-clause-value : goal.returns-clause-value
returns-clause-value c =
    let all : c.groups.group ≡ c.min-group-end.result = omega (arith, c.groups-test.false, c.groups.auto.group-end) in
    c.groups.invariant ∙ ap (groups_within (given c.args.key.now)) all ∙ within_few (given c.args.key.now) c.group_count.result c.min-group-end.result c.group_count.ensures c.min-group-end.ensures

pub returns-clause-few : goal.returns-clause-few
returns-clause-few c = omega (arith, returns-clause-value c, count_few (given c.args.key.now))
