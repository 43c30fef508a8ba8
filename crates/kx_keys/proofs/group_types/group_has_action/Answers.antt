use Rattle.std.proofs.Common.{◌≡◌, ℕ, Bool, is_some, ap, ◌∙◌, arith}
use Rattle.kx_virtual_mods.specs.Sets.{any_below}
use Rattle.kx_keys.specs.Given.{given}
use Rattle.kx_keys.proofs.group_types.group_has_action.Goals as goal

pub returns : goal.returns
returns c =
    let key = given c.args.key.now in
    let test : ℕ → Bool = λ level. is_some (key.action c.args.group level) in
    let all : c.levels.level ≡ key.width c.args.group = omega (arith, c.levels-test.false, c.levels.auto.level-end, c.width-level-end.ensures) in
    c.levels.invariant ∙ ap (λ n. any_below n test) all
