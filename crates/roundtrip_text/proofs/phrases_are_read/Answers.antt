use Rattle.roundtrip_text.proofs.Texts.{text_reads}
use Rattle.roundtrip_text.proofs.phrases_are_read.Goals as goal

pub returns : goal.returns
returns k text slices lexes unmarked = let r = text_reads text slices lexes unmarked in (r.tokens, r.reading, r.begins)
