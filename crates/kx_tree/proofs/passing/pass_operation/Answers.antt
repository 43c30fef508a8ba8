use Rattle.kx_tree.proofs.PassedForms.{some-map}
use Rattle.kx_tree.proofs.PassedValues.{operation-passes}
use Rattle.kx_tree.proofs.passing.pass_operation.Goals as goal

pub returns-clause-passes : goal.returns-clause-passes
returns-clause-passes c = some-map c.pass_term.result (λ rest. operation-passes c.in_ok-pass_sign.ensures.passes) c.pass_term.ensures.passes
