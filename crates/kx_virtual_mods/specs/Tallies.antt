-- What going over statements makes of names.
use Rattle.std.specs.Prelude.{◌≡◌, ℕ, ◌≤◌, true, List, [], ◌∷◌, IfErr, OnOk, Contains, length, Result, Some, slice_get}
use Rattle.std.specs.List.{flat_map, list_any}
use Rattle.std.specs.Str.{bytes_eq}
use Rattle.kx_include.specs.Shared.{bodies_behind, body_at}
use Rattle.kx_include.specs.declared.expansion.Entry.{Entry}
use Rattle.kx_include.specs.declared.expansion.Entry.TheVariants.{Own, Include}
use Rattle.kx_include.specs.declared.expansion.Link.{Link}
use Rattle.kx_include.specs.declared.expansion.Map.{Map}
use Rattle.kx_include.specs.declared.place.Place.{Place}
use Rattle.kx_include.specs.Expansion.{Body}
use Rattle.kx_lex.specs.declared.fault.Fault.{Fault}
use Rattle.kx_lex.specs.declared.fault.Fault.TheVariants.{Memory}
use Rattle.kx_tree.specs.declared.tree.Statement.{Statement}
use Rattle.kx_virtual_mods.specs.Counted.{Said, Text, crossing, names_behind, statements_of}
use Rattle.kx_virtual_mods.specs.declared.counted.Tally.{Tally}

-- ---- The statements of parts of a body

abbrev pub links_statements : List Body → List Link → List Said
links_statements bodies links = flat_map (λ (l : Link). statements_of (body_at bodies l.map)) links

abbrev pub entry_statements : List Body → Place → Entry → List Said
entry_statements bodies place (Own stated) = (place, stated.now) ∷ []
entry_statements bodies place (Include mode links) = links_statements bodies links.items

abbrev pub map_statements : List Body → Map → List Said
map_statements bodies m = flat_map (entry_statements bodies m.place) m.entries.items

-- the bodies of maps by number
abbrev pub bodies_of : List Map → List Body
bodies_of maps = bodies_behind [] maps

-- each of some names is among others
abbrev pub HasEach : List Text → List Text → Type 0
HasEach there [] = Unit {0}
HasEach there (name ∷ more) = (list_any (bytes_eq name) there ≡ true) × HasEach there more

module _ (names : Statement → List Text) where
  -- each name that statements write is there
  abbrev pub HasAll : List Text → List Said → Type 0
  HasAll there [] = Unit {0}
  HasAll there (said ∷ saids) = HasEach there (names said.1.statement) × HasAll there saids

  -- the maps that are marked add no names
  abbrev pub AreDone : List Map → Tally → Type 0
  AreDone maps tally = (number : ℕ) → slice_get tally.done.items number ≡ Some true → HasAll tally.names (statements_of (body_at (bodies_of maps) number))

  -- statements add their names, of which there are no more than a limit then
  pub record Adds {X : Type 0} (limit : ℕ) (maps : List Map) (old : Tally) (answer : Result X Fault) (new : Tally) (saids : List Said) : Type 0 where
    pub added : OnOk answer (new.names ≡ names_behind names old.names saids)
    pub faultless : OnOk answer (crossing names limit old.names saids ≡ [])
    pub few : OnOk answer (length new.names ≤ limit)
    pub done : OnOk answer (AreDone maps new)
    pub fault : IfErr answer (λ e. Contains (Memory ∷ crossing names limit old.names saids) e)
