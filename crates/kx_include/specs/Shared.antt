-- The body that an expansion stands for: each of its maps stands once, and is found by its number.
use Rattle.std.specs.Prelude.{ℕ, List, [], ◌∷◌, ◌++◌, slice_get, Option, None, Some}
use Rattle.kx_include.specs.Expansion.{Body, End, Begin, Own, Inc}
use Rattle.kx_include.specs.declared.expansion.Entry.{Entry}
use Rattle.kx_include.specs.declared.expansion.Entry.TheVariants as entry
use Rattle.kx_include.specs.declared.expansion.Expansion.{Expansion}
use Rattle.kx_include.specs.declared.expansion.Link.{Link}
use Rattle.kx_include.specs.declared.expansion.Map.{Map}
use Rattle.kx_include.specs.declared.place.Place.{Place}

abbrev pub or_end : Option Body → Body
or_end (Some b) = b
or_end None = End

-- the body of a number; none past the last
abbrev pub body_at : List Body → ℕ → Body
body_at bodies n = or_end (slice_get bodies n)

-- the parts of an include's text
abbrev pub links_body : List Body → List Link → Body
links_body bodies [] = End
links_body bodies (l ∷ ls) = Inc l.mode l.group (body_at bodies l.map) (links_body bodies ls)

-- a section's items, and the rest after them
abbrev pub entries_body : List Body → Place → List Entry → Body → Body
entries_body bodies place [] rest = rest
entries_body bodies place (entry.Own stated ∷ es) rest = Own place stated.now (entries_body bodies place es rest)
entries_body bodies place (entry.Include mode links ∷ es) rest = Inc mode None (links_body bodies links.items) (entries_body bodies place es rest)

abbrev pub shared_body : List Body → Map → Body → Body
shared_body bodies m rest = Begin (entries_body bodies m.place m.entries.items rest)

-- the bodies of maps in order, of which each may include those before it
abbrev pub bodies_behind : List Body → List Map → List Body
bodies_behind bodies [] = bodies
bodies_behind bodies (m ∷ ms) = bodies_behind (bodies ++ shared_body bodies m End ∷ []) ms

-- the source's sections, one after another
abbrev pub shared_sections : List Body → List Map → Body
shared_sections bodies [] = End
shared_sections bodies (m ∷ ms) = shared_body bodies m (shared_sections bodies ms)

abbrev pub expanded_body : Expansion → Body
expanded_body x = shared_sections (bodies_behind [] x.maps.items) x.sections.items
