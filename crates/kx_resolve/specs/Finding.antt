-- How first places are found, and what a first place is.
use Rattle.std.specs.Prelude.{◌≡◌, ℕ, nat_eq, false, All, Contains, List, [], Option, None, Some, fold}
use Rattle.std.specs.Option.{option_map}
use Rattle.indexmap.specs.IndexMap.{IndexMap, get}
use Rattle.kx_keys.specs.Mapping.{earlier, is_before}
use Rattle.kx_keys.specs.declared.places.LevelPlace.{LevelPlace}

-- the first places of keysyms, of those that are looked for
abbrev pub Firsts : Type 0
Firsts = ℕ → Option (Option LevelPlace)

-- each keysym that was looked for still is, and its first place is that of its old one and these places
pub record Visits (places : ℕ → List LevelPlace) (old new : Firsts) : Type 0 where
  pub firsts_are : (keysym : ℕ) → new keysym ≡ option_map (λ first. fold earlier first (places keysym)) (old keysym)

-- as maps by the keysyms' numbers
abbrev pub Visited : {S : Type 0} → (ℕ → List LevelPlace) → IndexMap ℕ (Option LevelPlace) S → IndexMap ℕ (Option LevelPlace) S → Type 0
Visited places old new = Visits places (get nat_eq old) (get nat_eq new)

-- that a place is among others and none of them comes before it
pub record IsFirst (places : List LevelPlace) (first : LevelPlace) : Type 0 where
  pub among : Contains places first
  pub least : All (λ place. is_before place first ≡ false) places

-- of places one that comes first, or none where there is no place
abbrev pub IsFirstOrNone : List LevelPlace → Option LevelPlace → Type 0
IsFirstOrNone places None = places ≡ []
IsFirstOrNone places (Some first) = IsFirst places first
