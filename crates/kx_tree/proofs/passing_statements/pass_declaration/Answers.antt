use Rattle.kx_tree.proofs.PassedForms.{some-map}
use Rattle.kx_tree.proofs.PassedStatements.{declaration-passes}
use Rattle.kx_tree.proofs.passing_statements.pass_declaration.Goals as goal

pub returns-clause-passes : goal.returns-clause-passes
returns-clause-passes c = some-map c.pass_declared_mask.result (λ rest. declaration-passes c.in_ok-mask.ensures.passes) c.pass_declared_mask.ensures.passes
