use Rattle.std.proofs.Common.{◌≡◌, ◌+◌, ◌++◌, ◌∷◌, [], ap, arith, sym, subst, ◌∙◌}
use Rattle.kx_mods.specs.Mods.{mask}
use Rattle.kx_compat.proofs.Kept.{KeptBelow, chosen_for, kept_more}
use Rattle.kx_compat.proofs.bucket.choices_of.Goals as goal

pub masks-preserved : goal.masks-preserved
masks-preserved c =
    let is = c.args.interpretations.now in
    let first = c.args.first_level in
    let bits : mask c.from_mask-modmap.result ≡ c.masks.mask = omega (arith, c.from_mask-modmap.ensures, c.masks-test.true) in
    let chosen = c.copied.ensures ∙ c.least_allowed.ensures ∙ ap (chosen_for is first) bits in
    subst (KeptBelow is first (c.masks.mask + 1)) (ap (λ o. c.masks.choices.items ++ o ∷ []) (sym chosen) ∙ sym c.in_ok-push.ensures.items)
    (kept_more is first c.masks.mask c.masks.choices.items c.masks.invariant)

pub returns-clause-choices : goal.returns-clause-choices
returns-clause-choices c =
    let all : c.masks.mask ≡ 256 = omega (arith, c.masks-test.false, c.masks.auto.mask-end) in
    subst (λ n. KeptBelow c.args.interpretations.now c.args.first_level n c.masks.choices.items) all c.masks.invariant
