-- The text that is kept in a library as a tree of its own, or as the outline of a file with the sections that were built.
use Rattle.std.specs.Prelude.{◌≡◌, ℕ, List, [], ◌∷◌, Option, Some, Ok, unwrap_or}
use Rattle.kx_tree.specs.declared.tree.Kind.{Kind}
use Rattle.kx_tree.specs.declared.tree.Section.{Section}
use Rattle.kx_include.specs.FileText.{outline_sections}
use Rattle.kx_include.specs.Library.{Text, map_of, sections_of}
use Rattle.kx_include.specs.MapIndex.{found}
use Rattle.kx_include.specs.declared.indexed.Kept.{Kept}
use Rattle.kx_include.specs.declared.indexed.Kept.TheVariants.{Own, Outlined}

-- sections of an outline, in whose place those stand that were built
abbrev pub built_over : List Section → List (Option Section) → List Section
built_over [] built = []
built_over (o ∷ outlines) [] = o ∷ built_over outlines []
built_over (o ∷ outlines) (b ∷ built) = unwrap_or b o ∷ built_over outlines built

abbrev pub text_of : Kept → Text
text_of (Own text maps) = text
text_of (Outlined file built) = Ok (record { sections = built_over (outline_sections file.now.outline) built.items })

-- the map that is found in what is kept
abbrev pub map_in : Kept → Kind → Option (List ℕ) → Option ℕ
map_in (Own text maps) kind name = found maps kind name
map_in (Outlined file built) kind name = map_of (outline_sections file.now.outline) kind name

-- each map is found that the text has
abbrev pub AreFound : Kept → Type 0
AreFound kept = (kind : Kind) (name : Option (List ℕ)) → map_in kept kind name ≡ map_of (sections_of (Some (text_of kept))) kind name
