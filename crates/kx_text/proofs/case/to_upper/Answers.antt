use Rattle.std.proofs.Common.{refl}
use Rattle.kx_text.specs.Case.{follow}
use Rattle.kx_text.specs.CaseRuns.{to_upper}
use Rattle.kx_text.proofs.case.to_upper.Goals as goal

pub returns-clause-runs : goal.returns-clause-runs
unfolding to_upper
returns-clause-runs c = refl

pub returns-clause-sound : goal.returns-clause-sound
unfolding follow
returns-clause-sound c = record { in_order = refl }
