use Rattle.roundtrip_text.proofs.Sections.{printed_lexes}
use Rattle.roundtrip_text.proofs.printed_text_is_read.Goals as goal

pub returns : goal.returns
returns k = printed_lexes
