-- Bodies without includes.
use Rattle.std.specs.Prelude.{ℕ, List, [], ◌∷◌, ◌++◌, ◌≡◌, false, Ok}
use Rattle.std.specs.List.{list_any}
use Rattle.kx_codes.specs.Pairs.{Pair, shares}
use Rattle.kx_include.specs.Expansion.{Body, Own}
use Rattle.kx_include.specs.declared.place.Place.{Place}
use Rattle.kx_include.specs.Library.{Library}
use Rattle.kx_tree.specs.declared.tree.Stated.{Stated}
use Rattle.kx_tree.specs.declared.tree.Section.{Section}
use Rattle.roundtrip_tree.specs.Shows.{IsStated, IsKeycode}

-- a section's statements, and the rest after them
abbrev pub own_body : Place → List Stated → Body → Body
own_body place [] rest = rest
own_body place (s ∷ ss) rest = Own place s (own_body place ss rest)

abbrev pub IsPair : Pair → Stated → Type 0
IsPair p stated = IsStated (IsKeycode p.name p.code) stated

-- each of some pairs shares nothing with those before it
abbrev pub Fresh : List Pair → List Pair → Type 0
Fresh ps [] = Unit {0}
Fresh ps (q ∷ qs) = (list_any (shares q) ps ≡ false) × Fresh (ps ++ q ∷ []) qs

abbrev pub alone : List Section → Library
alone ss = record { names = []; texts = Ok (record { sections = ss }) ∷ [] }

abbrev pub place_of : ℕ → Place
place_of section = record { file = 0; section = section }
