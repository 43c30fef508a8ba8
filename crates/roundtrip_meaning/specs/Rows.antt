-- What a printed key type says, row by row.
use Rattle.std.specs.Prelude.{ℕ, List, [], ◌∷◌, ◌++◌, ◌≡◌, ◌≤◌, ◌==◌, nat_eq, false, if◌then◌else◌}
use Rattle.std.specs.List.{flat_map, list_any}
use Rattle.kx_virtual_mods.specs.Sets.{meet}
use Rattle.kx_types.specs.declared.entry.TypeEntry.{TypeEntry}
use Rattle.kx_types.specs.declared.saying.Saying.{Saying}
use Rattle.kx_types.specs.declared.saying.Saying.TheVariants.{Modifiers, Map, Preserve, LevelName}

abbrev pub entry_sayings : TypeEntry → List Saying
entry_sayings e = Map e.mask e.level ∷ (if e.preserve == 0 then [] else Preserve e.mask e.preserve ∷ [])

abbrev pub sayings : ℕ → ℕ → List TypeEntry → List Saying
sayings modifiers levels es = Modifiers modifiers ∷ (flat_map entry_sayings es ++ LevelName levels ∷ [])

pub record EntryFits (modifiers levels : ℕ) (e : TypeEntry) : Type 0 where
  pub within : meet e.mask modifiers ≡ e.mask
  pub preserved : meet e.preserve e.mask ≡ e.preserve
  pub level : e.level ≤ levels

abbrev pub EntriesFit : ℕ → ℕ → List TypeEntry → Type 0
EntriesFit modifiers levels [] = Unit {0}
EntriesFit modifiers levels (e ∷ es) = EntryFits modifiers levels e × EntriesFit modifiers levels es

-- no mask stands twice, nor among some
abbrev pub Apart : List ℕ → List TypeEntry → Type 0
Apart ks [] = Unit {0}
Apart ks (e ∷ es) = (list_any (nat_eq e.mask) ks ≡ false) × Apart (ks ++ e.mask ∷ []) es
