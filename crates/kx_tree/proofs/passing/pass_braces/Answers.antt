use Rattle.kx_tree.proofs.PassedForms.{some-map}
use Rattle.kx_tree.proofs.PassedValues.{braces-passes}
use Rattle.kx_tree.proofs.passing.pass_braces.Goals as goal

pub returns-clause-passes : goal.returns-clause-passes
returns-clause-passes c = some-map c.pass_listed.result (λ rest. braces-passes c.in_ok-parts.ensures.passes) c.pass_listed.ensures.passes
