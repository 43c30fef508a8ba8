use Rattle.kx_compat.proofs.Kept.{KeptBelow}
use Rattle.kx_compat.proofs.bucket.choices_of.Given as goal

abbrev pub invariant-masks : goal.invariant-masks
invariant-masks l = KeptBelow l.interpretations l.first_level l.mask l.choices.items
