use Rattle.std.proofs.Common.{◌∙◌, sym}
use Rattle.kx_tree.proofs.PassedForms.{some-map}
use Rattle.kx_tree.proofs.PassedValues.{value-call, value-expression, value-list, value-operations}
use Rattle.kx_tree.proofs.passing.pass_value.Goals as goal

pub returns-then-front_is-clause-passes : goal.returns-then-front_is-clause-passes
returns-then-front_is-clause-passes c = some-map c.pass_list.result (λ rest. value-list) c.pass_list.ensures.passes

pub returns-then-not-front_is_word-clause-passes : goal.returns-then-not-front_is_word-clause-passes
returns-then-not-front_is_word-clause-passes c = some-map c.pass_expression.result (λ rest. value-expression c.requires (sym c.front_is.ensures ∙ c.if-front_is.false) (c.front_is_word.ensures c.if-not-front_is_word.true)) c.pass_expression.ensures.passes

pub returns-then-front_is-2-clause-passes : goal.returns-then-front_is-2-clause-passes
returns-then-front_is-2-clause-passes c = some-map c.pass_call_behind.result (λ rest. value-call c.in_ok-behind.ensures.passes) c.pass_call_behind.ensures.passes

pub returns-clause-passes : goal.returns-clause-passes
returns-clause-passes c = some-map c.pass_operations.result (λ rest. value-operations c.in_ok-behind.ensures.passes c.in_ok-behind.ensures.at (sym c.front_is-2.ensures ∙ c.if-front_is-2.false)) c.pass_operations.ensures.passes
