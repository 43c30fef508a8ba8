use Rattle.std.proofs.Common.{◌∙◌, sym}
use Rattle.kx_tree.proofs.PassedForms.{some-map}
use Rattle.kx_tree.proofs.PassedValues.{part-call, part-number, part-word}
use Rattle.kx_tree.proofs.passing.pass_part.Goals as goal

pub returns-then-front_is_digit-clause-passes : goal.returns-then-front_is_digit-clause-passes
returns-then-front_is_digit-clause-passes c = some-map c.pass_number.result (λ rest. part-number) c.pass_number.ensures.passes

pub returns-then-front_is-clause-passes : goal.returns-then-front_is-clause-passes
returns-then-front_is-clause-passes c = some-map c.pass_call_behind.result (λ rest. part-call c.in_ok-behind.ensures.passes) c.pass_call_behind.ensures.passes

pub returns-clause-passes : goal.returns-clause-passes
returns-clause-passes c = part-word c.in_ok-behind.ensures.passes c.in_ok-behind.ensures.at (sym c.front_is.ensures ∙ c.if-front_is.false)
