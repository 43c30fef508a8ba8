use Rattle.kx_tree.proofs.PassedForms.{some-map}
use Rattle.kx_tree.proofs.PassedStatements.{indicator_name-passes}
use Rattle.kx_tree.proofs.passing_statements.pass_indicator_name_behind.Goals as goal

pub returns-clause-passes : goal.returns-clause-passes
returns-clause-passes c = some-map c.pass_mark-2.result (λ rest. indicator_name-passes c.in_ok-equals.ensures.passes c.in_ok-name.ensures.passes c.in_ok-end.ensures.passes) c.pass_mark-2.ensures.passes
