-- A file's text, and the outline that is kept with it.
use Rattle.std.specs.Prelude.{◌≡◌, ℕ, List, [], Option, Some}
use Rattle.std.specs.Option.{ForSome, option_map_or}
use Rattle.kx_parse.specs.Outlined.{outlined}
use Rattle.kx_parse.specs.declared.outline.Outline.{Outline}
use Rattle.kx_tree.specs.declared.tree.Section.{Section}
use Rattle.kx_include.specs.MapIndex.{IsIndex, MapIndex}
use Rattle.kx_include.specs.Texts.{IsShort}

-- the bytes of a file, and their outline where one was made
pub record FileText : Type 0 where
  pub bytes : List ℕ
  pub outline : Option Outline

-- an outline's sections; none where there is no outline
abbrev pub outline_sections : Option Outline → List Section
outline_sections outline = option_map_or (λ o. o.sections) outline []

-- the outline is that of the bytes, of which there are few enough, and the index is that of its sections
pub record IsFileText (bytes : List ℕ) (outline : Option Outline) (maps : MapIndex) : Type 0 where
  pub short : ForSome outline (λ o. IsShort bytes)
  pub outlined : ForSome outline (λ o. outlined bytes ≡ Some o)
  pub indexed : IsIndex maps (outline_sections outline)
