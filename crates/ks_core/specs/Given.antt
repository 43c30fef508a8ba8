-- The names that lines gave, as two maps hold them.
use Rattle.std.specs.Prelude.{◌≡◌, ℕ, ◌+◌, ◌==◌, List, [], ◌∷◌, Option, None, Some, map, string_bytes, String, if◌then◌else◌}
use Rattle.std.specs.Option.{option_map}
use Rattle.std.specs.BTreeMap.{BTreeMap, get}
use Rattle.std.specs.Global.{Global}
use Rattle.std.specs.Ordering.{nat_cmp}
use Rattle.ks_core.specs.Entry.{Entry}

-- names to keysyms, as their map holds them
abbrev pub Pairs : Type 0
Pairs = List (String Global × ℕ)

-- the same as entries
abbrev pub entries_in : Pairs → List Entry
entries_in pairs = map (λ (pair : String Global × ℕ). (string_bytes pair.0, pair.1)) pairs

-- where the first name of a keysym stands
abbrev pub first_place : Pairs → ℕ → Option ℕ
first_place [] keysym = None
first_place (pair ∷ pairs) keysym = if pair.1 == keysym then Some 0 else option_map (λ place. place + 1) (first_place pairs keysym)

-- a map from each keysym that has a name to the place of its first one
abbrev pub HasFirstPlaces : BTreeMap ℕ ℕ → Pairs → Type 0
HasFirstPlaces first pairs = (keysym : ℕ) → get nat_cmp first keysym ≡ first_place pairs keysym
