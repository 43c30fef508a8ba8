use Rattle.roundtrip_meaning.proofs.Resolving.{resolved_again}
use Rattle.roundtrip_meaning.proofs.read_again_resolves_again.Goals as goal

pub returns : goal.returns
returns k c real typing keyed sound again = resolved_again c sound real typing keyed again
