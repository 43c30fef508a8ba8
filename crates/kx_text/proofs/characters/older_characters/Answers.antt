use Rattle.std.proofs.Common.{refl}
use Rattle.kx_text.specs.OlderCharacters.{older_characters}
use Rattle.kx_text.proofs.characters.older_characters.Goals as goal

pub returns : goal.returns
unfolding older_characters
returns c = refl
