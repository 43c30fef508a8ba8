use Rattle.std.proofs.Common.{arith}
use Rattle.std.proofs.lemmas.List.Sums.{prefix_len-le-length}
use Rattle.kx_lex.proofs.Masks.{run-ends}
use Rattle.kx_lex.proofs.scan.wide_run_len.Goals as goal

pub returns-then-others-ne0-clause-exact : goal.returns-then-others-ne0-clause-exact
returns-then-others-ne0-clause-exact g c =
    omega (arith, run-ends g.R.Run.has c.sixteens.rest.now c.others-others.result c.others-others.ensures c.if-others-ne0.true)

pub returns-then-others-ne0-clause-within : goal.returns-then-others-ne0-clause-within
returns-then-others-ne0-clause-within g c =
    omega (arith, run-ends g.R.Run.has c.sixteens.rest.now c.others-others.result c.others-others.ensures c.if-others-ne0.true, prefix_len-le-length g.R.Run.has c.sixteens.rest.now)
