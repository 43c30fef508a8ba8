use Rattle.std.proofs.Common.{◌∙◌, sym}
use Rattle.kx_tree.proofs.PassedForms.{some-map}
use Rattle.kx_tree.proofs.PassedStatements.{setting-on, setting-to}
use Rattle.kx_tree.proofs.passing_statements.pass_setting.Goals as goal

pub returns-then-front_is-clause-passes : goal.returns-then-front_is-clause-passes
returns-then-front_is-clause-passes c = some-map c.pass_value.result (λ rest. setting-to c.in_ok-pass_mark.ensures.passes) c.pass_value.ensures.passes

pub returns-clause-passes : goal.returns-clause-passes
returns-clause-passes c = setting-on c.args.bytes.now c.requires (sym c.front_is.ensures ∙ c.if-front_is.false)
