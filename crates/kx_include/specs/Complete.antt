-- A whole source's bodies leave nothing out.
use Rattle.std.specs.Prelude.{◌≡◌, ℕ, ◌+◌, suc, List, Contains, IsSome, Some, slice_get}
use Rattle.kx_lex.specs.declared.name.Name.{Name}
use Rattle.kx_lex.specs.declared.token.Span.{Span}
use Rattle.kx_tree.specs.declared.tree.Item.TheVariants.{Include}
use Rattle.kx_tree.specs.declared.tree.Kind.{Kind}
use Rattle.kx_tree.specs.declared.tree.Mode.{Mode}
use Rattle.kx_tree.specs.declared.tree.Section.{Section}
use Rattle.kx_include.specs.Expansion.{map_body, sections_body, body_of}
use Rattle.kx_parse.specs.IncludeText.{Part, parts_of}
use Rattle.kx_include.specs.Library.{Library, items_in, place_of, sections_in}
use Rattle.kx_include.specs.Limits.{most_depth}
use Rattle.kx_include.specs.declared.place.Place.{Place}

-- an include in the map at a place has a text
abbrev pub Includes : Library → Place → List ℕ → Type 0
Includes library place text = (mode : Mode) × (name : Name) × (span : Span) × (name.bytes ≡ text) × Contains (items_in library place) (Include mode name span)

-- from the map at a place, includes lead to the one at another
pub data LeadsTo (library : Library) (kind : Kind) : Place → Place → Type 0 where
  here : {place : Place} → LeadsTo library kind place place
  there : {place next last : Place} {text : List ℕ} {parts : List Part} {part : Part} → Includes library place text → parts_of text ≡ Some parts → Contains parts part → place_of library kind part ≡ Some next → LeadsTo library kind next last → LeadsTo library kind place last

-- an include's text has parts, and each names a map
abbrev pub NamesMaps : Library → Kind → List ℕ → Type 0
NamesMaps library kind text = (parts : List Part) × (parts_of text ≡ Some parts) × ((part : Part) → Contains parts part → IsSome (place_of library kind part))

pub record LeavesNothingOut (library : Library) : Type 0 where
  -- wherever the includes of the source's sections lead, each names maps
  pub names : (n : ℕ) (section : Section) → slice_get (sections_in library 0) n ≡ Some section → (place : Place) → LeadsTo library section.kind (record { file = 0; section = n }) place → (text : List ℕ) → Includes library place text → NamesMaps library section.kind text
  -- and at no greater depth is there more
  pub deepest : (kind : Kind) (more : ℕ) → sections_body (map_body (suc most_depth + more) library kind) kind 0 (sections_in library 0) ≡ body_of library kind
