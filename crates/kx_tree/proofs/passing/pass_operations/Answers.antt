use Rattle.std.proofs.Common.{arith, sym}
use Rattle.kx_tree.proofs.PassedValues.{operations-more, operations-none}
use Rattle.kx_tree.proofs.passing.pass_operations.Goals as goal

pub terms-init : goal.terms-init
terms-init c = ((λ end p. p), omega arith, c.requires)

pub terms-preserved : goal.terms-preserved
terms-preserved c = ((λ end p. c.terms.invariant.0 end (operations-more c.in_ok-rest.ensures.passes p)), omega (arith, c.in_ok-rest.ensures.within, c.terms.invariant.1), c.in_ok-rest.ensures.at)

pub returns-clause-passes : goal.returns-clause-passes
returns-clause-passes c = c.terms.invariant.0 _ (operations-none _ c.terms.invariant.2 (sym c.terms-test.ensures))
