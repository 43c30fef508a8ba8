use Rattle.roundtrip_text.proofs.Tables.{sound_placed}
use Rattle.roundtrip_text.proofs.seen_tables_are_themselves.Goals as goal

pub returns : goal.returns
returns k = sound_placed
