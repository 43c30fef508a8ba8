use Rattle.kx_tree.proofs.PassedForms.{some-map}
use Rattle.kx_tree.proofs.PassedStatements.{key_field-field, key_field-list}
use Rattle.kx_tree.proofs.passing_statements.pass_key_field.Goals as goal

pub returns-then-front_is-clause-passes : goal.returns-then-front_is-clause-passes
returns-then-front_is-clause-passes c = some-map c.pass_list.result (λ rest. key_field-list) c.pass_list.ensures.passes

pub returns-clause-passes : goal.returns-clause-passes
returns-clause-passes c = some-map c.pass_field.result (λ rest. key_field-field) c.pass_field.ensures.passes
