use Rattle.kx_tree.proofs.PassedForms.{some-map}
use Rattle.kx_tree.proofs.PassedValues.{list-passes}
use Rattle.kx_tree.proofs.passing.pass_list.Goals as goal

pub returns-clause-passes : goal.returns-clause-passes
returns-clause-passes c = some-map c.pass_listed.result (λ rest. list-passes c.in_ok-elements.ensures.passes) c.pass_listed.ensures.passes
