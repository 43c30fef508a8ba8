use Rattle.std.proofs.Common.{refl}
use Rattle.ks_core.proofs.RisingLemmas.{rises_from, rising}
use Rattle.kx_text.specs.FirstKeysym.{by_character, by_number, put}
use Rattle.kx_text.specs.OlderCharacters.{older_characters}
use Rattle.kx_text.proofs.first_keysym.each_character.Goals as goal

pub returns-clause-members : goal.returns-clause-members
unfolding by_character by_number put older_characters
returns-clause-members c = refl

pub returns-clause-rising : goal.returns-clause-rising
unfolding rises_from
returns-clause-rising c = rising _ refl
