use Rattle.std.proofs.Common.{◌∙◌, sym}
use Rattle.kx_tree.proofs.PassedForms.{some-map}
use Rattle.kx_tree.proofs.PassedValues.{optional-none}
use Rattle.kx_tree.proofs.PassedStatements.{declared_mask-some}
use Rattle.kx_lex.specs.Tokens.{equals, mark}
use Rattle.kx_tree.specs.Forms.{after}
use Rattle.kx_tree.specs.Values.{expression}
use Rattle.kx_tree.proofs.passing_statements.pass_declared_mask.Goals as goal

pub returns-then-front_is-clause-passes : goal.returns-then-front_is-clause-passes
returns-then-front_is-clause-passes c = some-map c.pass_expression.result (λ rest. declared_mask-some c.in_ok-pass_mark.ensures.passes) c.pass_expression.ensures.passes

pub returns-clause-passes : goal.returns-clause-passes
returns-clause-passes c = optional-none (λ text. after (mark text equals) (expression text)) 61 c.args.bytes.now c.requires (sym c.front_is.ensures ∙ c.if-front_is.false)
