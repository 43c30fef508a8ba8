use Rattle.kx_tree.proofs.PassedForms.{some-map}
use Rattle.kx_tree.proofs.PassedValues.{sign-minus, sign-plus}
use Rattle.kx_tree.proofs.passing.pass_sign.Goals as goal

pub returns-then-front_is-clause-passes : goal.returns-then-front_is-clause-passes
returns-then-front_is-clause-passes c = some-map c.pass_mark.result (λ rest. sign-plus) c.pass_mark.ensures.passes

pub returns-clause-passes : goal.returns-clause-passes
returns-clause-passes c = some-map c.pass_mark-2.result (λ rest. sign-minus) c.pass_mark-2.ensures.passes
