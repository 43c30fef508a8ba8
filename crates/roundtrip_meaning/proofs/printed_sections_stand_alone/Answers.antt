use Rattle.roundtrip_meaning.proofs.Sources.{read_alone}
use Rattle.roundtrip_meaning.proofs.printed_sections_stand_alone.Goals as goal

pub returns : goal.returns
returns k = read_alone
