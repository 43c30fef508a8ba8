use Rattle.kx_tree.proofs.PassedForms.{some-map}
use Rattle.kx_tree.proofs.PassedStatements.{field-passes, keycode-statement}
use Rattle.kx_tree.proofs.passing_statements.pass_statement.Goals as goal

pub returns-then-front_is-clause-passes : goal.returns-then-front_is-clause-passes
returns-then-front_is-clause-passes c = some-map c.pass_keycode.result (λ rest. keycode-statement) c.pass_keycode.ensures.passes

pub returns-then-front_is-2-clause-passes : goal.returns-then-front_is-2-clause-passes
returns-then-front_is-2-clause-passes c = some-map c.pass_field_statement.result (λ rest. field-passes) c.pass_field_statement.ensures.passes

pub returns-clause-passes : goal.returns-clause-passes
returns-clause-passes c = some-map c.pass_statement_behind.result (λ rest goes. goes c.args.bytes.now c.in_ok-word.ensures.passes) c.pass_statement_behind.ensures.passes
