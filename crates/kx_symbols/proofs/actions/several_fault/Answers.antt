use Rattle.std.proofs.Common.{◌≡◌, ◌<◌, Contains, arith, get_or, length, subst, sym}
use Rattle.std.specs.List.{flat_map}
use Rattle.std.proofs.lemmas.List.Elements.{Contains-append_right}
use Rattle.kx_symbols.specs.KeyFaults.{action_part_faults, several_faults}
use Rattle.kx_merge.proofs.Going.{of_element}
use Rattle.kx_symbols.proofs.actions.several_fault.Goals as goal

pub returns-in-Symbol : goal.returns-in-Symbol
returns-in-Symbol c =
    let faults = action_part_faults c.args.file c.args.known.now.modifiers in
    let parts = c.args.braces.now.parts in
    Contains-append_right (several_faults c.args.file c.args.braces.now) (flat_map faults parts) c.symbol_fault.result
    (of_element faults parts c.parts.part-index c.part-item.result c.symbol_fault.result
    (subst (λ ps. c.parts.part-index < length ps) c.as_slice-parts.ensures c.parts-test.true)
    (subst (λ ps. c.part-item.result ≡ get_or ps c.parts.part-index c.part-item.result) c.as_slice-parts.ensures c.part-item.is)
    (subst (λ p. Contains (faults p) c.symbol_fault.result) (sym c.in-Symbol.is) (0, omega arith, sym c.symbol_fault.ensures)))
