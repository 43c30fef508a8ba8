use Rattle.std.proofs.Common.{refl}
use Rattle.ks_core.specs.MoreLetters.{steps_from, lower_runs, more_lower}
use Rattle.ks_core.proofs.RisingLemmas.{rises_from, rising}
use Rattle.ks_core.proofs.letters.lower.Goals as goal

pub returns-clause-members : goal.returns-clause-members
unfolding steps_from lower_runs more_lower
returns-clause-members c = refl

pub returns-clause-rising : goal.returns-clause-rising
unfolding rises_from
returns-clause-rising c = rising _ refl
