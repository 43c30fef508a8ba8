use Rattle.roundtrip_meaning.proofs.Types.{types_declared}
use Rattle.roundtrip_meaning.proofs.printed_types_are_declared.Goals as goal

pub returns : goal.returns
returns k = types_declared
