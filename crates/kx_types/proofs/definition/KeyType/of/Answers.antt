use Rattle.std.proofs.Common.{◌≡◌, ap, subst, sym, ◌∙◌}
use Rattle.kx_types.specs.KeyTypes.{definition_of, entries_of}
use Rattle.kx_types.specs.Lawful.{IsLawful}
use Rattle.kx_types.proofs.Laws.{lawful}
use Rattle.kx_types.proofs.definition.KeyType.of.Goals as goal

pub invariant_of-result : goal.invariant_of-result
invariant_of-result c =
    let said = c.args.said.now in
    let entries = c.in_ok-entries_of.ensures ∙ ap (λ m. entries_of m said) c.modifiers_of-modifiers.ensures in
    let same : definition_of said ≡ record { modifiers = c.modifiers_of-modifiers.result; levels = c.levels_of.result; entries = c.in_ok-entries_of.field-0.items } =
    λ i. record { modifiers = sym c.modifiers_of-modifiers.ensures i; levels = sym c.levels_of.ensures i; entries = sym entries i } in
    subst IsLawful same (lawful said c.requires)
