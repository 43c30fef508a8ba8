use Rattle.kx_tree.proofs.PassedForms.{some-map}
use Rattle.kx_tree.proofs.PassedValues.{signed-passes}
use Rattle.kx_tree.proofs.passing.pass_signed.Goals as goal

pub returns-clause-passes : goal.returns-clause-passes
returns-clause-passes c = some-map c.pass_number.result (λ rest. signed-passes c.in_ok-pass_sign.ensures.passes) c.pass_number.ensures.passes
