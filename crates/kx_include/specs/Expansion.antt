-- The expanded body of a section kind: its items in order, with the body of what it names in the place of each include.
use Rattle.std.specs.Prelude.{ℕ, ◌+◌, suc, zero, List, [], ◌∷◌, cond, Option, None}
use Rattle.std.specs.Option.{option_map_or}
use Rattle.kx_tree.specs.declared.tree.Item.{Item}
use Rattle.kx_tree.specs.declared.tree.Item.TheVariants.{Include, Statement}
use Rattle.kx_tree.specs.declared.tree.Kind.{Kind}
use Rattle.kx_tree.specs.declared.tree.Mode.{Mode}
use Rattle.kx_tree.specs.declared.tree.Section.{Section}
use Rattle.kx_tree.specs.declared.tree.Stated.{Stated}
use Rattle.kx_parse.specs.IncludeText.{Part, parts_of}
use Rattle.kx_include.specs.Library.{Library, items_in, sections_in, place_of, is_of}
use Rattle.kx_include.specs.declared.expanding.TheConstants.{MOST_DEPTH}
use Rattle.kx_include.specs.declared.place.Place.{Place}

-- items in order, from where each section begins: its own statement, or what an include brings under a mode, moved to a group where one is named
pub data Body : Type 0 where
  End : Body
  Begin : Body → Body
  Own : Place → Stated → Body → Body
  Inc : Mode → Option ℕ → Body → Body → Body

-- the include of a text is one item, and has one for each part
abbrev pub parts_body : (Part → Body) → List Part → Body
parts_body inner [] = End
parts_body inner (p ∷ ps) = Inc p.mode p.group (inner p) (parts_body inner ps)

-- a section's items, and the rest after them
abbrev pub items_body : (Part → Body) → Place → List Item → Body → Body
items_body inner place [] rest = rest
items_body inner place (Include mode text span ∷ is) rest = Inc mode None (option_map_or (parts_body inner) (parts_of text.bytes) End) (items_body inner place is rest)
items_body inner place (Statement stated ∷ is) rest = Own place stated (items_body inner place is rest)

-- the body of a map, in which includes are nested less deep than a number
abbrev pub map_body : ℕ → Library → Kind → Place → Body → Body
map_body zero library kind place rest = rest
map_body (suc depth) library kind place rest = Begin (items_body (λ p. option_map_or (λ found. map_body depth library kind found End) (place_of library kind p) End) place (items_in library place) rest)

-- sections of a kind, counted on, one after another
abbrev pub sections_body : (Place → Body → Body) → Kind → ℕ → List Section → Body
sections_body body kind n [] = End
sections_body body kind n (s ∷ ss) = cond (is_of kind s) (body (record { file = 0; section = n }) (sections_body body kind (n + 1) ss)) (sections_body body kind (n + 1) ss)

-- the body of the source's sections of a kind
abbrev pub body_of : Library → Kind → Body
body_of library kind = sections_body (map_body (suc MOST_DEPTH) library kind) kind 0 (sections_in library 0)
