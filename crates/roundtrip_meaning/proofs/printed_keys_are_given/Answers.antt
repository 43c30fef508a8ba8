use Rattle.roundtrip_meaning.proofs.KeySection.{keys_given}
use Rattle.roundtrip_meaning.proofs.printed_keys_are_given.Goals as goal

pub returns : goal.returns
returns k = keys_given
