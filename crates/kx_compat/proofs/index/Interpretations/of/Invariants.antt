use Rattle.std.proofs.Common.{take}
use Rattle.kx_compat.specs.Indexed.{IsIndexed}
use Rattle.kx_compat.proofs.index.Interpretations.of.Given as goal

abbrev pub invariant-all : goal.invariant-all
invariant-all l = IsIndexed (λ b. b) l.named.entries l.any (take l.interpretation-index l.interpretation-items)
