-- The bodies of a printed text.
use Rattle.std.specs.Prelude.{List, [], ◌∷◌}
use Rattle.kx_include.specs.Expansion.{Begin, Body, End}
use Rattle.kx_include.specs.Library.{Library}
use Rattle.kx_include.specs.declared.place.Place.{Place}
use Rattle.kx_tree.specs.declared.tree.Stated.{Stated}
use Rattle.roundtrip_meaning.specs.Bodies.{alone, own_body, place_of}
use Rattle.roundtrip_tree.specs.Sources.{sections_of}

abbrev pub library_of : List Stated → List Stated → List Stated → List Stated → Library
library_of keycodes types indicators symbols = alone (sections_of keycodes types indicators symbols)

-- without indicators there is no section of theirs
abbrev pub indicators_body : List Stated → Body
indicators_body [] = End
indicators_body (s ∷ ss) = Begin (own_body (place_of 2) (s ∷ ss) End)

abbrev pub symbols_place : List Stated → Place
symbols_place [] = place_of 2
symbols_place (s ∷ ss) = place_of 3
