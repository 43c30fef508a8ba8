use Rattle.std.proofs.Common.{◌∙◌, sym}
use Rattle.kx_tree.proofs.PassedForms.{some-map}
use Rattle.kx_tree.proofs.PassedValues.{optional-none}
use Rattle.kx_tree.proofs.PassedStatements.{wanted-passes}
use Rattle.kx_tree.specs.Statements.{wanted_modifiers}
use Rattle.kx_tree.proofs.passing_statements.pass_wanted_modifiers.Goals as goal

pub returns-then-front_is-clause-passes : goal.returns-then-front_is-clause-passes
returns-then-front_is-clause-passes c = some-map c.pass_predicate.result (λ rest. wanted-passes c.in_ok-pass_mark.ensures.passes) c.pass_predicate.ensures.passes

pub returns-clause-passes : goal.returns-clause-passes
returns-clause-passes c = optional-none wanted_modifiers 43 c.args.bytes.now c.requires (sym c.front_is.ensures ∙ c.if-front_is.false)
