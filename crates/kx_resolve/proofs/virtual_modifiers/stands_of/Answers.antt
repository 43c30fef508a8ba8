use Rattle.std.proofs.Common.{◌≡◌, ◌||◌, ◌+◌, ◌∷◌, [], ℕ, Bool, length, ap, ◌∙◌, arith}
use Rattle.std.proofs.lemmas.List.{length-append}
use Rattle.kx_resolve.specs.MappedKeys.{is_brought}
use Rattle.kx_resolve.proofs.Brought.{stands_push}
use Rattle.kx_virtual_mods.specs.Sets.{has}
use Rattle.kx_virtual_mods.specs.Standing.{stands_for}
use Rattle.kx_resolve.proofs.virtual_modifiers.stands_of.Goals as goal

pub numbers-init : goal.numbers-init
numbers-init c = (ap length c.new-stands.ensures.items, λ k real less. absurd (omega (arith, less)))

pub numbers-preserved : goal.numbers-preserved
numbers-preserved c =
    let wanted : ℕ → ℕ → Bool = λ k real. stands_for c.args.declared.now k real || is_brought c.args.mapped_keys.now k real in
    let number = c.numbers.number in
    let m = c.standing.result in
    let made = c.numbers.stands.items in
    let here : (real : ℕ) → has m.0 real ≡ wanted number real = λ real. c.standing.ensures real ∙ ap (λ n. has n real || is_brought c.args.mapped_keys.now number real) c.declared_at.ensures in
    let pushed = c.in_ok-push.ensures.items in (
      ap length pushed ∙ length-append made (m ∷ []) ∙ ap (λ n. n + 1) c.numbers.invariant.0,
      λ k real less. ap (λ ms. stands_for ms k real) pushed ∙ stands_push made m number wanted c.numbers.invariant.0 c.numbers.invariant.1 here k real less,
    )

pub returns-clause-made : goal.returns-clause-made
returns-clause-made c = λ number real less. c.numbers.invariant.1 number real (omega (arith, less, c.numbers-test.false, c.numbers.auto.number-end))
