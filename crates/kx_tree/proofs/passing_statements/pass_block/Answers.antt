use Rattle.kx_tree.proofs.PassedForms.{some-map}
use Rattle.kx_tree.proofs.PassedStatements.{block-passes}
use Rattle.kx_tree.proofs.passing_statements.pass_block.Goals as goal

pub returns-clause-passes : goal.returns-clause-passes
returns-clause-passes c = some-map c.pass_block_fields.result (λ rest. block-passes c.in_ok-fields.ensures.passes) c.pass_block_fields.ensures.passes
