use Rattle.std.proofs.Common.{arith}
use Rattle.kx_include.proofs.Wanting.{closed-all, closed-more}
use Rattle.kx_include.proofs.sources.Library.is_closed.Goals as goal

pub texts-preserved : goal.texts-preserved
texts-preserved c = record { closed = closed-more c.args.self.now c.args.wanted.now c.texts.file c.texts.invariant.closed (c.in_ok-is_closed_in.ensures c.if-not-branch.false) }

pub returns : goal.returns
returns c closed =
    let end = c.texts-test.false in
    let many = c.len-file-end.ensures.texts in
    closed-all c.args.self.now c.args.wanted.now c.texts.file (omega (arith, end, many)) c.texts.invariant.closed
