use Rattle.std.proofs.Common.{ap, arith, get_or, ◌∙◌}
use Rattle.kx_mods.specs.Mods.{mask}
use Rattle.kx_compat.proofs.Kept.{kept_at}
use Rattle.kx_compat.proofs.bucket.kept.Goals as goal

pub returns-in-Some : goal.returns-in-Some
returns-in-Some c = λ is first are.
    let chosen = c.in-Some.chosen.now in
    c.as_ref.ensures.value
    ∙ c.in-Some.ensures.lookup.1
    ∙ ap (λ os. get_or os c.from.result chosen) c.deref.ensures.value
    ∙ ap (λ place. get_or c.args.choices.now.items place chosen) (c.from.ensures ∙ c.mask.ensures.value)
    ∙ kept_at is first c.args.choices.now.items (mask c.args.modmap) chosen are (omega (arith, c.mask.ensures.in_range))
