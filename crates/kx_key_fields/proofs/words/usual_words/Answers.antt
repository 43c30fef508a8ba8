use Rattle.kx_key_fields.proofs.Usual.{usual_words}
use Rattle.kx_key_fields.proofs.words.usual_words.Goals as goal

pub returns : goal.returns
returns c = usual_words
