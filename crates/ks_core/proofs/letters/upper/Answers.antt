use Rattle.std.proofs.Common.{refl}
use Rattle.ks_core.specs.MoreLetters.{steps_from, upper_runs, more_upper}
use Rattle.ks_core.proofs.RisingLemmas.{rises_from, rising}
use Rattle.ks_core.proofs.letters.upper.Goals as goal

pub returns-clause-members : goal.returns-clause-members
unfolding steps_from upper_runs more_upper
returns-clause-members c = refl

pub returns-clause-rising : goal.returns-clause-rising
unfolding rises_from
returns-clause-rising c = rising _ refl
