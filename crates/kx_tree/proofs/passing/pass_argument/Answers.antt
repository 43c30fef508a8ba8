use Rattle.std.proofs.Common.{◌∙◌, sym}
use Rattle.kx_tree.proofs.PassedForms.{some-map}
use Rattle.kx_tree.proofs.PassedValues.{argument-expression, argument-off, argument-operations, argument-set}
use Rattle.kx_tree.proofs.passing.pass_argument.Goals as goal

pub returns-then-front_is-clause-passes : goal.returns-then-front_is-clause-passes
returns-then-front_is-clause-passes c = some-map c.pass_word.result (λ rest. argument-off c.in_ok-pass_mark.ensures.passes) c.pass_word.ensures.passes

pub returns-then-not-front_is_word-clause-passes : goal.returns-then-not-front_is_word-clause-passes
returns-then-not-front_is_word-clause-passes c = some-map c.pass_expression.result (λ rest. argument-expression c.requires (sym c.front_is.ensures ∙ c.if-front_is.false) (c.front_is_word.ensures c.if-not-front_is_word.true)) c.pass_expression.ensures.passes

pub returns-then-front_is_set-clause-passes : goal.returns-then-front_is_set-clause-passes
returns-then-front_is_set-clause-passes c = some-map c.pass_set_behind.result (λ rest. argument-set c.in_ok-behind.ensures.passes) c.pass_set_behind.ensures.passes

pub returns-clause-passes : goal.returns-clause-passes
returns-clause-passes c = some-map c.pass_operations.result (λ rest. argument-operations c.in_ok-behind.ensures.passes c.in_ok-behind.ensures.at (sym c.front_is_set.ensures ∙ c.if-front_is_set.false)) c.pass_operations.ensures.passes
