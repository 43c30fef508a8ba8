use Rattle.std.proofs.Common.{◌≡◌, ◌<◌, length, get_or, drop, subst}
use Rattle.std.specs.List.{flat_map}
use Rattle.kx_lex.specs.declared.fault.Fault.TheVariants.{Memory}
use Rattle.kx_symbols.specs.KeyFaults.{action_element_faults, actions_faults}
use Rattle.kx_merge.proofs.Going.{any_blames, reported_or_out}
use Rattle.kx_symbols.proofs.Statements.{behind_memory}
use Rattle.kx_symbols.proofs.actions.read_actions.Goals as goal

pub returns-in_err-element_action-clause-faults : goal.returns-in_err-element_action-clause-faults
returns-in_err-element_action-clause-faults c =
    let faults = action_element_faults c.args.file c.args.known.now.modifiers in
    reported_or_out c.from_residual-in_err-element_action.result (actions_faults c.args.file c.args.known.now.modifiers c.args.list.now) c.in_err-element_action.field-0.0 c.from_residual-in_err-element_action.ensures.1
    (any_blames faults c.args.list.now.elements c.elements.element-index c.element-item.result Memory c.in_err-element_action.field-0.0
    (subst (λ xs. c.elements.element-index < length xs) c.as_slice-elements.ensures c.elements-test.true)
    (subst (λ xs. c.element-item.result ≡ get_or xs c.elements.element-index c.element-item.result) c.as_slice-elements.ensures c.element-item.is)
    (subst (λ xs. flat_map faults xs ≡ flat_map faults (drop c.elements.element-index xs)) c.as_slice-elements.ensures c.elements.invariant.1)
    (behind_memory (faults c.element-item.result) c.in_err-element_action.field-0.0 c.in_err-element_action.ensures.faults.1))
