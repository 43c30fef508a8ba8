use Rattle.std.proofs.Common.{refl}
use Rattle.kx_text.specs.FirstKeysym.{by_character, by_number, put}
use Rattle.kx_text.specs.OlderCharacters.{older_characters}
use Rattle.kx_text.proofs.first_keysym.first_keysyms.Goals as goal

pub returns : goal.returns
unfolding by_character by_number put older_characters
returns c = refl
