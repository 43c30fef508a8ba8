use Rattle.kx_tree.proofs.PassedForms.{some-map}
use Rattle.kx_tree.proofs.PassedStatements.{terminated-passes}
use Rattle.kx_tree.proofs.passing_statements.pass_field_statement_behind.Goals as goal

pub returns-clause-passes : goal.returns-clause-passes
returns-clause-passes c = some-map c.pass_mark.result (λ rest. terminated-passes c.in_ok-end.ensures.passes) c.pass_mark.ensures.passes
