use Rattle.std.proofs.Common.{arith}
use Rattle.kx_tree.proofs.PassedForms.{some-map}
use Rattle.kx_tree.proofs.PassedStatements.{block_fields-more, block_fields-none}
use Rattle.kx_tree.proofs.passing_statements.pass_block_fields.Goals as goal

pub fields-init : goal.fields-init
fields-init c = ((λ end p. p), omega arith, c.requires)

pub fields-preserved : goal.fields-preserved
fields-preserved c = ((λ end p. c.fields.invariant.0 end (block_fields-more c.in_ok-pass_field.ensures.passes c.in_ok-rest.ensures.passes p)), omega (arith, c.in_ok-rest.ensures.within, c.in_ok-pass_field.ensures.within, c.fields.invariant.1), c.in_ok-rest.ensures.at)

pub returns-clause-passes : goal.returns-clause-passes
returns-clause-passes c = some-map c.pass_mark-2.result (λ rest p. c.fields.invariant.0 rest.now (block_fields-none p)) c.pass_mark-2.ensures.passes
