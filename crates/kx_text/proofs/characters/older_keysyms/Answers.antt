use Rattle.std.proofs.Common.{refl}
use Rattle.ks_core.proofs.RisingLemmas.{rises_from, rising}
use Rattle.kx_text.specs.OlderCharacters.{older_characters}
use Rattle.kx_text.proofs.characters.older_keysyms.Goals as goal

pub returns-clause-members : goal.returns-clause-members
unfolding older_characters
returns-clause-members c = refl

pub returns-clause-rising : goal.returns-clause-rising
unfolding rises_from
returns-clause-rising c = rising _ refl
