use Rattle.kx_tree.proofs.PassedForms.{some-map}
use Rattle.kx_tree.proofs.PassedStatements.{keycode-passes}
use Rattle.kx_tree.proofs.passing_statements.pass_keycode.Goals as goal

pub returns-clause-passes : goal.returns-clause-passes
returns-clause-passes c = some-map c.pass_mark-2.result (λ rest. keycode-passes c.in_ok-equals.ensures.passes c.in_ok-code.ensures.passes c.in_ok-end.ensures.passes) c.pass_mark-2.ensures.passes
