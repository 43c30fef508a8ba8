use Rattle.std.proofs.Common.{◌≡◌, ℕ, Bool, is_some, ap, sym, ◌∙◌, arith}
use Rattle.kx_virtual_mods.specs.Sets.{any_below}
use Rattle.kx_keys.specs.Given.{action_of, given}
use Rattle.kx_keys.specs.GroupTypes.{group_count}
use Rattle.kx_keys.proofs.Acting.{acts_is, acts_not}
use Rattle.kx_keys.proofs.group_types.has_action.Goals as goal

pub returns-then-not-has_action : goal.returns-then-not-has_action
returns-then-not-has_action c =
    sym (acts_not (given c.args.key.now) (λ group level. ap action_of (c.has_action.ensures.none c.if-not-has_action.true group level)))

pub returns : goal.returns
returns c =
    let key = given c.args.key.now in
    let test : ℕ → Bool = λ group. any_below (key.width group) (λ level. is_some (key.action group level)) in
    let all : c.groups.group ≡ group_count key = omega (arith, c.groups-test.false, c.groups.auto.group-end, c.group_count-group-end.ensures.value) in
    c.groups.invariant ∙ ap (λ n. any_below n test) all ∙ acts_is key
