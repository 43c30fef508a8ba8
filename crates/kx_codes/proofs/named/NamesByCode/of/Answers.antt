use Rattle.std.proofs.Common.{◌<◌, ◌≤◌, subst, take_all}
use Rattle.kx_codes.specs.Indexed.{both}
use Rattle.kx_codes.specs.Numbers.{AreNumbered}
use Rattle.kx_codes.proofs.Naming.{one_named}
use Rattle.kx_codes.proofs.Numbering.{named_stands}
use Rattle.kx_codes.proofs.Standing.{some_at}
use Rattle.kx_codes.proofs.named.NamesByCode.of.Goals as goal

pub pairs-preserved : goal.pairs-preserved
pairs-preserved c = λ ps s.
    let vs = c.args.pairs.now.by_code in
    let one = some_at vs c.pairs.place (subst (λ n. c.pairs.place < n) c.len-count.ensures.len c.pairs-test.true) in
    one_named c.args.names.now c.requires.once c.args.pairs.now (both c.pairs.by_code) (both c.put_at.new.self) c.pairs.place one.0 c.in_ok-put_at.ensures.put one.1 ps s (c.len-count.ensures.own s.numbered s.stands) (c.pairs.invariant ps s)

pub returns-clause-stand : goal.returns-clause-stand
returns-clause-stand c = λ ps s.
    let vs = c.args.pairs.now.by_code in
    let all = c.pairs.invariant ps s in
    named_stands c.args.names.now c.requires.once c.args.pairs.now (both c.pairs.by_code) vs all.0 ps s (c.len-count.ensures.own s.numbered s.stands)
    (subst (λ l. AreNumbered c.args.names.now l all.0) (take_all c.pairs.place vs (subst (λ n. n ≤ c.pairs.place) c.len-count.ensures.len c.pairs-test.false)) all.1) all.2
