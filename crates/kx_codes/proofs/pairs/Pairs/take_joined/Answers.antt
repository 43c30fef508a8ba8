use Rattle.std.proofs.Common.{◌∙◌, sym}
use Rattle.kx_codes.proofs.Standing.{stands_first}
use Rattle.kx_codes.proofs.pairs.Pairs.take_joined.Goals as goal

pub returns-then-len-eq0-clause-took : goal.returns-then-len-eq0-clause-took
returns-then-len-eq0-clause-took c = λ ps qs s t. stands_first c.args.mode c.args.self.now c.args.given ps qs (sym c.len.ensures.len ∙ c.if-len-eq0.true) s t
