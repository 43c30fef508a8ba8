use Rattle.std.proofs.Common.{arith}
use Rattle.kx_include.proofs.Wanting.{closed-next, closed-sections}
use Rattle.kx_include.proofs.sources.Library.is_closed_in.Goals as goal

pub sections-preserved : goal.sections-preserved
sections-preserved c = record { closed = closed-next c.args.self.now c.args.wanted.now c.args.file c.sections.section c.sections.invariant.closed (c.in_ok-is_closed_section.ensures c.if-not-branch.false) }

pub returns : goal.returns
returns c closed =
    let end = c.sections-test.false in
    let many = c.section_count-section-end.ensures in
    closed-sections c.args.self.now c.args.wanted.now c.args.file c.sections.section (omega (arith, end, many)) c.sections.invariant.closed
