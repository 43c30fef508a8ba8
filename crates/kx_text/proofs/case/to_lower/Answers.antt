use Rattle.std.proofs.Common.{refl}
use Rattle.kx_text.specs.Case.{follow}
use Rattle.kx_text.specs.CaseRuns.{to_lower}
use Rattle.kx_text.proofs.case.to_lower.Goals as goal

pub returns-clause-runs : goal.returns-clause-runs
unfolding to_lower
returns-clause-runs c = refl

pub returns-clause-sound : goal.returns-clause-sound
unfolding follow
returns-clause-sound c = record { in_order = refl }
