use Rattle.std.proofs.Common.{ap, false, unwrap_or}
use Rattle.kx_clients.proofs.interpretation_repeats.InterpretationRepeats.of.Goals as goal

pub returns-clause-repeats : goal.returns-clause-repeats
returns-clause-repeats c = λ m. ap (λ said. unwrap_or said false) (c.in_ok-merged.ensures.shows.cells_are m tt)
