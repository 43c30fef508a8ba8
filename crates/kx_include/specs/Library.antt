-- The texts that includes find, and what an include's part names among them.
use Rattle.std.specs.Prelude.{ℕ, ◌+◌, Bool, true, false, ◌&&◌, List, [], ◌∷◌, ◌++◌, position, if◌then◌else◌, slice_get, Option, None, Some, Result, Ok, Err, codes}
use Rattle.std.specs.List.{list_any}
use Rattle.std.specs.Option.{option_and_then, option_map, option_map_or, option_or}
use Rattle.std.specs.Str.{bytes_eq}
use Rattle.kx_lex.specs.declared.fault.Fault.{Fault}
use Rattle.kx_tree.specs.declared.tree.Flag.{Flag}
use Rattle.kx_tree.specs.declared.tree.Flag.TheVariants as flags
use Rattle.kx_tree.specs.declared.tree.Item.{Item}
use Rattle.kx_tree.specs.declared.tree.Kind.{Kind}
use Rattle.kx_tree.specs.Sections.{kind_word}
use Rattle.kx_lex.specs.declared.name.Name.{Name}
use Rattle.kx_tree.specs.declared.tree.Section.{Section}
use Rattle.kx_tree.specs.declared.tree.Tree.{Tree}
use Rattle.kx_parse.specs.IncludeText.{Part}
use Rattle.kx_include.specs.declared.place.Place.{Place}
use Rattle.kx_tree.specs.contracts.tree.KindPartialEq.TheImpl.{ghosts}

-- what a text is: its tree, or the fault for which it has none
abbrev pub Text : Type 0
Text = Result Tree Fault

pub record Library : Type 0 where
  -- the names of the files, of which the first has the number 1; and the texts, that of the source as number 0 before theirs
  pub names : List (List ℕ)
  pub texts : List Text

-- files with one more, which takes the place of one of its name
abbrev pub with_file : List (List ℕ × List ℕ) → List ℕ → List ℕ → List (List ℕ × List ℕ)
with_file [] name bytes = (name, bytes) ∷ []
with_file (f ∷ fs) name bytes = if bytes_eq name f.0 then (f.0, bytes) ∷ fs else f ∷ with_file fs name bytes

abbrev pub folder : Kind → List ℕ
folder kind = kind_word kind ++ codes "/"

abbrev pub number_of : List (List ℕ) → List ℕ → Option ℕ
number_of names name = option_map (λ place. place + 1) (position (bytes_eq name) names)

-- the file in the folder of the section's kind comes before one of the bare name
abbrev pub file_of : List (List ℕ) → Kind → List ℕ → Option ℕ
file_of names kind name = option_or (number_of names (folder kind ++ name)) (number_of names name)

abbrev pub is_of : Kind → Section → Bool
is_of kind s = ghosts.eq s.kind kind

abbrev pub is_default_flag : Flag → Bool
is_default_flag flags.Default = true
is_default_flag _ = false

abbrev pub has_name : List ℕ → Option Name → Bool
has_name name named = option_map_or (λ n. bytes_eq name n.bytes) named false

-- the map of a name is the first of the kind that has it; without a name it is the first flagged default, else the first
abbrev pub map_of : List Section → Kind → Option (List ℕ) → Option ℕ
map_of sections kind (Some name) = position (λ s. is_of kind s && has_name name s.name) sections
map_of sections kind None = option_or (position (λ s. is_of kind s && list_any is_default_flag s.flags) sections) (position (is_of kind) sections)

abbrev pub sections_of : Option Text → List Section
sections_of (Some (Ok tree)) = tree.sections
sections_of _ = []

abbrev pub sections_in : Library → ℕ → List Section
sections_in library file = sections_of (slice_get library.texts file)

-- the items of a map
abbrev pub items_in : Library → Place → List Item
items_in library place = option_map_or (λ s. s.items) (slice_get (sections_in library place.file) place.section) []

abbrev pub place_in : Library → Kind → Option (List ℕ) → ℕ → Option Place
place_in library kind map file = option_map (λ section. record { file = file; section = section }) (map_of (sections_in library file) kind map)

-- the map that a part names
abbrev pub place_of : Library → Kind → Part → Option Place
place_of library kind part = option_and_then (place_in library kind part.map) (file_of library.names kind part.file)
