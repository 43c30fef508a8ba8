use Rattle.std.proofs.Common.{◌∙◌, sym}
use Rattle.kx_tree.proofs.PassedForms.{some-map}
use Rattle.kx_tree.proofs.PassedStatements.{predicate-call, predicate-expression, predicate-operations}
use Rattle.kx_tree.proofs.passing_statements.pass_predicate.Goals as goal

pub returns-then-not-front_is_word-clause-passes : goal.returns-then-not-front_is_word-clause-passes
returns-then-not-front_is_word-clause-passes c = some-map c.pass_expression.result (λ rest. predicate-expression c.requires (c.front_is_word.ensures c.if-not-front_is_word.true)) c.pass_expression.ensures.passes

pub returns-then-front_is-clause-passes : goal.returns-then-front_is-clause-passes
returns-then-front_is-clause-passes c = some-map c.pass_call_behind.result (λ rest. predicate-call c.in_ok-behind.ensures.passes) c.pass_call_behind.ensures.passes

pub returns-clause-passes : goal.returns-clause-passes
returns-clause-passes c = some-map c.pass_operations.result (λ rest. predicate-operations c.in_ok-behind.ensures.passes c.in_ok-behind.ensures.at (sym c.front_is.ensures ∙ c.if-front_is.false)) c.pass_operations.ensures.passes
