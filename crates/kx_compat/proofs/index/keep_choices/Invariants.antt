use Rattle.std.proofs.Common.{◌≡◌}
use Rattle.kx_compat.proofs.index.keep_choices.Given as goal

abbrev pub invariant-buckets : goal.invariant-buckets
invariant-buckets l = l.named ≡ l.fn.named
