use Rattle.kx_tree.proofs.PassedForms.{after-passes, some-map}
use Rattle.kx_tree.proofs.passing.pass_call_behind.Goals as goal

pub returns-clause-passes : goal.returns-clause-passes
returns-clause-passes c = some-map c.pass_listed.result (λ rest. after-passes c.in_ok-arguments.ensures.passes) c.pass_listed.ensures.passes
