-- The bodies of a source that includes nothing.
use Rattle.std.proofs.Common.{◌≡◌, ℕ, List, [], ◌∷◌, Ok, refl, ap, ◌∙◌}
use Rattle.kx_include.specs.Library.{Library, Text}
use Rattle.kx_include.specs.Texts.{IsLibrary, AreTexts, none}
use Rattle.kx_tree.specs.declared.tree.Section.{Section}
use Rattle.roundtrip_meaning.specs.Bodies.{alone}

no_texts : (n : ℕ) (texts : List Text) → AreTexts n [] texts → texts ≡ []
no_texts n [] none = refl
no_texts n (t ∷ ts) are = elim are [ ]

-- a source without files is its tree alone
pub library_is : (ss : List Section) (library : Library) → IsLibrary (record { sections = ss }) [] library → library ≡ alone ss
library_is ss library is = λ i. record { names = is.names i; texts = (is.texts.1 ∙ ap (λ (rest : List Text). let all : List Text = Ok (record { sections = ss }) ∷ rest in all) (no_texts 1 is.texts.0 is.texts.2)) i }
