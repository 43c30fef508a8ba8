use Rattle.kx_tree.proofs.PassedForms.{some-map}
use Rattle.kx_tree.proofs.PassedStatements.{key-passes}
use Rattle.kx_tree.proofs.passing_statements.pass_key_behind.Goals as goal

pub returns-clause-passes : goal.returns-clause-passes
returns-clause-passes c = some-map c.pass_mark-2.result (λ rest. key-passes c.in_ok-open.ensures.passes c.in_ok-fields.ensures.passes c.in_ok-end.ensures.passes) c.pass_mark-2.ensures.passes
