use Rattle.std.proofs.Common.{◌≡◌, ◌<◌, length, get_or, drop, subst}
use Rattle.std.specs.List.{flat_map}
use Rattle.kx_lex.specs.declared.fault.Fault.TheVariants.{Memory}
use Rattle.kx_symbols.specs.KeyFaults.{element_faults, elements_faults}
use Rattle.kx_merge.proofs.Going.{any_blames, reported_or_out}
use Rattle.kx_symbols.proofs.keysyms.read_levels.Goals as goal

pub returns-in_err-element_level-clause-faults : goal.returns-in_err-element_level-clause-faults
returns-in_err-element_level-clause-faults c =
    reported_or_out c.from_residual-in_err-element_level.result (elements_faults c.args.whole.file c.args.whole.span c.args.list.now) c.in_err-element_level.field-0.0 c.from_residual-in_err-element_level.ensures.1
    (any_blames (element_faults c.args.whole.file c.args.whole.span) c.args.list.now.elements c.elements.element-index c.element-item.result Memory c.in_err-element_level.field-0.0
    (subst (λ xs. c.elements.element-index < length xs) c.as_slice-elements.ensures c.elements-test.true)
    (subst (λ xs. c.element-item.result ≡ get_or xs c.elements.element-index c.element-item.result) c.as_slice-elements.ensures c.element-item.is)
    (subst (λ xs. flat_map (element_faults c.args.whole.file c.args.whole.span) xs ≡ flat_map (element_faults c.args.whole.file c.args.whole.span) (drop c.elements.element-index xs)) c.as_slice-elements.ensures c.elements.invariant.1)
    c.in_err-element_level.ensures.faults.1)
