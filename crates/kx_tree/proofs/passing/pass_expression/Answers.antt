use Rattle.kx_tree.proofs.PassedForms.{some-map}
use Rattle.kx_tree.proofs.PassedValues.{expression-passes}
use Rattle.kx_tree.proofs.passing.pass_expression.Goals as goal

pub returns-clause-passes : goal.returns-clause-passes
returns-clause-passes c = some-map c.pass_operations.result (λ rest. expression-passes c.in_ok-pass_term.ensures.passes) c.pass_operations.ensures.passes
