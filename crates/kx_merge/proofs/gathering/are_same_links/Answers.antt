use Rattle.std.proofs.Common.{◌≡◌, get_or, arith, rules}
use borrow.Author.Count.{below_more}
use Rattle.kx_merge.proofs.Behind.{alike, no_link}
use Rattle.kx_merge.proofs.gathering.are_same_links.Goals as goal

pub links-preserved : goal.links-preserved
links-preserved c = below_more (λ k. get_or c.args.some.now k no_link ≡ get_or c.args.others.now k no_link) c.links.place c.links.invariant (c.if-not-is_same_link.ensures (search rules))

pub returns : goal.returns
returns c = λ yes. alike c.args.some.now c.args.others.now no_link c.if-some-others.false (λ k within. c.links.invariant k (omega (arith, within, c.links-test.false)))
