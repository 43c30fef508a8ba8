use Rattle.kx_tree.proofs.PassedForms.{assigned-passes, some-map}
use Rattle.kx_tree.proofs.passing.pass_set_behind.Goals as goal

pub returns-clause-passes : goal.returns-clause-passes
returns-clause-passes c = some-map c.pass_expression.result (λ rest. assigned-passes (λ i e. (i, e)) c.in_ok-equals.ensures.passes c.in_ok-value.ensures.passes) c.pass_expression.ensures.passes
