-- What is known of an expansion while it grows.
use Rattle.std.specs.Prelude.{◌≡◌, ◌⊎◌, ℕ, ◌+◌, ◌≤◌, suc, length, List, [], ◌∷◌, ◌++◌, Option, Some, slice_get}
use Rattle.kx_lex.specs.declared.fault.Fault.{Fault}
use Rattle.kx_lex.specs.declared.fault.Fault.TheVariants.{Memory}
use Rattle.kx_tree.specs.declared.tree.Item.{Item}
use Rattle.kx_tree.specs.declared.tree.Kind.{Kind}
use Rattle.kx_include.specs.Chosen.{found_body, text_body}
use Rattle.kx_include.specs.Expansion.{Body, End, Inc, items_body, map_body, parts_body}
use Rattle.kx_include.specs.IncludeFaults.{Findings, HasFaultFrom, in_map}
use Rattle.kx_parse.specs.IncludeText.{Part}
use Rattle.kx_include.specs.Library.{Library, place_of}
use Rattle.kx_include.specs.Limits.{most_depth, most_parts}
use Rattle.kx_include.specs.Shared.{bodies_behind, body_at, entries_body, links_body, shared_body}
use Rattle.kx_include.specs.declared.expanding.Reach.{Reach}
use Rattle.kx_include.specs.declared.expansion.Entry.{Entry}
use Rattle.kx_include.specs.declared.expansion.Expansion.{Expansion}
use Rattle.kx_include.specs.declared.expansion.Link.{Link}
use Rattle.kx_include.specs.declared.expansion.Map.{Map}
use Rattle.kx_include.specs.declared.place.Place.{Place}

abbrev pub bodies_of : List Map → List Body
bodies_of ms = bodies_behind [] ms

-- what a part brings, in which includes are nested less deep than a number
abbrev pub part_body : ℕ → Library → Kind → Part → Body
part_body depth library kind p = found_body (map_body depth library kind) (place_of library kind p)

-- ---- What has no fault, and is meant also where more maps follow

pub record IsMeant (bodies : List Body) (seen count : ℕ) (found : Findings) (is : List Body → Type 0) : Type 0 where
  pub faultless : found.faults ≡ []
  pub counted : count ≡ seen + length found.visits
  pub means : (more : List Body) → is (bodies ++ more)

-- at a depth and each greater one
abbrev pub Known : List Body → ℕ → ℕ → ℕ → (ℕ → Findings) → (ℕ → List Body → Type 0) → Type 0
Known bodies depth seen count found is = (d : ℕ) → depth ≤ d → IsMeant bodies seen count (found d) (is d)

abbrev pub IsMapOf : Library → Kind → Place → Map → ℕ → List Body → Type 0
IsMapOf library kind place m d bodies = (rest : Body) → shared_body bodies m rest ≡ map_body (suc d) library kind place rest

abbrev pub IsNumberOf : Library → Kind → Place → ℕ → ℕ → List Body → Type 0
IsNumberOf library kind place n d bodies = body_at bodies n ≡ map_body (suc d) library kind place End

abbrev pub IsFound : Library → Kind → Option Place → ℕ → ℕ → List Body → Type 0
IsFound library kind place n d bodies = body_at bodies n ≡ found_body (map_body (suc d) library kind) place

abbrev pub IsLinkOf : Library → Kind → Part → Link → ℕ → List Body → Type 0
IsLinkOf library kind p l d bodies = (rest : Body) → Inc l.mode l.group (body_at bodies l.map) rest ≡ Inc p.mode p.group (part_body d library kind p) rest

abbrev pub AreLinksOf : Library → Kind → List Part → List Link → ℕ → List Body → Type 0
AreLinksOf library kind ps ls d bodies = links_body bodies ls ≡ parts_body (part_body d library kind) ps

abbrev pub IsTextOf : Library → Kind → Option (List Part) → List Link → ℕ → List Body → Type 0
IsTextOf library kind ps ls d bodies = links_body bodies ls ≡ text_body (part_body d library kind) ps

abbrev pub AreEntriesOf : Library → Kind → Place → List Item → List Entry → ℕ → List Body → Type 0
AreEntriesOf library kind place items entries d bodies = (rest : Body) → entries_body bodies place entries rest ≡ items_body (part_body d library kind) place items rest

-- ---- Maps, each of which is known

abbrev pub AreKnown : Library → Kind → List Map → Type 0
AreKnown library kind ms = (n : ℕ) (m : Map) → slice_get ms n ≡ Some m → Known (bodies_of ms) m.depth 0 m.parts (λ d. in_map d library kind m.place) (IsNumberOf library kind m.place n)

-- maps with more after them
abbrev pub Grows : List Map → List Map → Type 0
Grows old new = (more : List Body) × (bodies_of new ≡ bodies_of old ++ more)

-- something is expanded where so many parts were before, and what it includes is among the maps then
pub record Expands (library : Library) (kind : Kind) (most seen : ℕ) (old new : List Map) (found : ℕ → Findings) (is : ℕ → List Body → Type 0) (depth count : ℕ) : Type 0 where
  pub grown : Grows old new
  pub known : AreKnown library kind new
  pub meant : Known (bodies_of new) depth seen count found is
  pub within : depth ≤ most
  pub few : count ≤ most_parts

-- a map that is known, and that can be included where so many parts were expanded before
pub record IsKnownMap (ms : List Map) (place : Place) (most seen n : ℕ) (reach : Reach) : Type 0 where
  pub map : Map
  pub found : slice_get ms n ≡ Some map
  pub there : map.place ≡ place
  pub depth : reach.depth ≡ map.depth
  pub count : reach.count ≡ seen + map.parts
  pub within : reach.depth ≤ most
  pub few : reach.count ≤ most_parts

-- a section of the source is added to the body of its kind
pub record AddsSection (library : Library) (kind : Kind) (place : Place) (seen : ℕ) (old new : Expansion) (count : ℕ) : Type 0 where
  pub map : Map
  pub sections : new.sections.items ≡ old.sections.items ++ map ∷ []
  pub expands : Expands library kind most_depth seen old.maps.items new.maps.items (λ d. in_map d library kind place) (IsMapOf library kind place map) map.depth count

-- lack of memory, or a fault of these
abbrev pub Blames : ℕ → Findings → Fault → Type 0
Blames seen found e = (e ≡ Memory) ⊎ HasFaultFrom seen found e
