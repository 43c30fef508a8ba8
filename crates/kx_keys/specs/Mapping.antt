-- The real modifiers that keys are mapped to, by the modifier maps of keys and of keysyms (X Keyboard Extension, the modifier
-- map).
use Rattle.std.specs.Prelude.{ℕ, zero, suc, ◌==◌, ◌&&◌, ◌||◌, nat_eq, nat_lt, Bool, false, List, [], ◌∷◌, ◌++◌, fold, Option, None, Some, if◌then◌else◌}
use Rattle.std.specs.List.{list_any}
use Rattle.std.specs.Set.{is_member}
use Rattle.std.specs.Option.{option_map_or}
use Rattle.kx_keys.specs.Rows.{mods_of}
use Rattle.kx_keys.specs.Selecting.{RealSet}
use Rattle.kx_virtual_mods.specs.Sets.{has}
use Rattle.kx_mods.specs.declared.mods.Mods.{Mods}
use Rattle.kx_keys.specs.Given.{KeyGiven}
use Rattle.kx_keys.specs.GroupTypes.{content_group, group_count, group_levels, level_keysyms}
use Rattle.kx_keys.specs.declared.places.LevelPlace.{LevelPlace}
use Rattle.kx_keys.specs.Typing.{Typing}
use Rattle.kx_basics.specs.declared.limits.TheConstants.{CODES}

-- what is read: names and keys of codes, what tells the types of groups, and what modifier maps give the keys of codes and, each with a mask, keysyms
pub record Mapping : Type 0 where
  pub name : ℕ → Option (List ℕ)
  pub key : ℕ → KeyGiven
  pub typing : Typing
  pub key_maps : ℕ → RealSet
  pub keysym_maps : List (ℕ × ℕ)

-- ---- The first of places

-- a lesser group comes first, in one group a lesser level, at one level a lesser keycode
abbrev pub is_before : LevelPlace → LevelPlace → Bool
is_before one other =
    nat_lt one.group other.group
    || one.group == other.group && (nat_lt one.level other.level || one.level == other.level && nat_lt one.code other.code)

abbrev pub earlier : Option LevelPlace → LevelPlace → Option LevelPlace
earlier None place = Some place
earlier (Some first) place = Some (if is_before place first then place else first)

abbrev pub first_of : List LevelPlace → Option LevelPlace
first_of places = fold earlier None places

-- ---- Where a keysym stands, alone or with others

module _ (keysym : ℕ) where
  abbrev pub place_at : KeyGiven → ℕ → ℕ → ℕ → List LevelPlace
  place_at key code group level = if is_member nat_eq (level_keysyms key (content_group key group) level) keysym then record { group = group; level = level; code = code } ∷ [] else []

  -- on the levels of a group below a number
  unfoldable pub level_places : KeyGiven → ℕ → ℕ → ℕ → List LevelPlace
  level_places key code group zero = []
  level_places key code group (suc level) = level_places key code group level ++ place_at key code group level

  module _ (typing : Typing) where
    -- on the groups of a key below a number: keysyms after the levels of a group aren't kept
    unfoldable pub group_places : KeyGiven → ℕ → ℕ → List LevelPlace
    group_places key code zero = []
    group_places key code (suc group) = group_places key code group ++ level_places key code group (group_levels typing key group)

    abbrev pub key_places : ℕ → Option (List ℕ) → KeyGiven → List LevelPlace
    key_places code None key = []
    key_places code (Some name) key = group_places key code (group_count key)

  module _ (m : Mapping) where
    -- on the keys of the codes below a number
    unfoldable pub places_below : ℕ → List LevelPlace
    places_below zero = []
    places_below (suc code) = places_below code ++ key_places m.typing code (m.name code) (m.key code)

    unfoldable pub first_place : Option LevelPlace
    first_place = first_of (places_below CODES)

abbrev pub modmap_of : Mapping → ℕ → Mods
modmap_of m code = mods_of (λ real. m.key_maps code real || list_any (λ e. option_map_or (λ p. p.code == code) (first_place e.0 m) false && has e.1 real) m.keysym_maps)

-- ---- Under a name, for clauses and proofs

abbrev pub is_at : ℕ → Option LevelPlace → Bool
is_at code place = option_map_or (λ p. p.code == code) place false
