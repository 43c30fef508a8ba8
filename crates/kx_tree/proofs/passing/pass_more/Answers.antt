use Rattle.std.proofs.Common.{arith, sym}
use Rattle.kx_tree.proofs.PassedForms.{more-none, more-one}
use Rattle.kx_tree.proofs.passing.pass_more.Goals as goal

pub more-init : goal.more-init
more-init g c = ((λ end p. p), omega arith, c.requires)

pub more-preserved : goal.more-preserved
more-preserved g c = ((λ end p. c.more.invariant.0 end (more-one c.in_ok-pass_mark.ensures.passes c.in_ok-rest.ensures.passes p)), omega (arith, c.in_ok-rest.ensures.within, c.in_ok-pass_mark.ensures.within, c.more.invariant.1), c.in_ok-rest.ensures.at)

pub returns-clause-passes : goal.returns-clause-passes
returns-clause-passes g c = c.more.invariant.0 _ (more-none g.P.Passed.production _ c.more.invariant.2 (sym c.more-test.ensures))
