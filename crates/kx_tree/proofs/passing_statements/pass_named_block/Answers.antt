use Rattle.kx_tree.proofs.PassedForms.{some-map}
use Rattle.kx_tree.proofs.PassedStatements.{named_block-passes}
use Rattle.kx_tree.proofs.passing_statements.pass_named_block.Goals as goal

pub returns-clause-passes : goal.returns-clause-passes
returns-clause-passes c = some-map c.pass_mark.result (λ rest. named_block-passes c.in_ok-fields.ensures.passes c.in_ok-end.ensures.passes) c.pass_mark.ensures.passes
