use Rattle.std.proofs.Common.{length}
use Rattle.kx_rules.proofs.uses.+push_all_written.Given as goal

abbrev pub decreases-push_all_written : goal.decreases-push_all_written
decreases-push_all_written l = length l.values.now
