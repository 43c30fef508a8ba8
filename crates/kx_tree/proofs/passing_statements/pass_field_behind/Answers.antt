use Rattle.kx_tree.proofs.PassedForms.{both-passes, some-map}
use Rattle.kx_tree.proofs.passing_statements.pass_field_behind.Goals as goal

pub returns-clause-passes : goal.returns-clause-passes
returns-clause-passes c = some-map c.pass_setting.result (λ rest. both-passes c.in_ok-setting.ensures.passes) c.pass_setting.ensures.passes
