use Rattle.kx_tree.proofs.PassedForms.{some-map}
use Rattle.kx_tree.proofs.PassedValues.{element-braces, element-part}
use Rattle.kx_tree.proofs.passing.pass_element.Goals as goal

pub returns-then-front_is-clause-passes : goal.returns-then-front_is-clause-passes
returns-then-front_is-clause-passes c = some-map c.pass_braces.result (λ rest. element-braces) c.pass_braces.ensures.passes

pub returns-clause-passes : goal.returns-clause-passes
returns-clause-passes c = some-map c.pass_part.result (λ rest. element-part) c.pass_part.ensures.passes
