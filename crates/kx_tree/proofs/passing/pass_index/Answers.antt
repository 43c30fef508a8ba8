use Rattle.kx_tree.proofs.PassedForms.{some-map}
use Rattle.kx_tree.proofs.PassedValues.{index-passes}
use Rattle.kx_tree.proofs.passing.pass_index.Goals as goal

pub returns-clause-passes : goal.returns-clause-passes
returns-clause-passes c = some-map c.pass_mark-2.result (λ rest. index-passes c.in_ok-value.ensures.passes c.in_ok-close.ensures.passes) c.pass_mark-2.ensures.passes
