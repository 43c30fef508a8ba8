use Rattle.kx_tree.proofs.PassedForms.{some-map}
use Rattle.kx_tree.proofs.PassedValues.{member-passes}
use Rattle.kx_tree.proofs.passing.pass_member.Goals as goal

pub returns-clause-passes : goal.returns-clause-passes
returns-clause-passes c = some-map c.pass_word.result (λ rest. member-passes c.in_ok-pass_mark.ensures.passes) c.pass_word.ensures.passes
