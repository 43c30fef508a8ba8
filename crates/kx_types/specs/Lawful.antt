-- What holds of every key type that is declared.
use Rattle.std.specs.Prelude.{◌≡◌, ℕ, ◌≤◌, All}
use Rattle.kx_basics.specs.declared.limits.TheConstants.{MOST_LEVELS}
use Rattle.kx_virtual_mods.specs.Sets.{meet}
use Rattle.kx_types.specs.KeyTypes.{Definition}
use Rattle.kx_types.specs.declared.entry.TypeEntry.{TypeEntry}
use Rattle.kx_types.specs.declared.saying.Saying.{Saying}
use Rattle.kx_types.specs.declared.saying.Saying.TheVariants.{Map, LevelName}

abbrev pub IsLevel : ℕ → Type 0
IsLevel level = (1 ≤ level) × (level ≤ MOST_LEVELS)

-- a level that a field names is one
abbrev pub NamesLevel : Saying → Type 0
NamesLevel (Map mask level) = IsLevel level
NamesLevel (LevelName level) = IsLevel level
NamesLevel _ = Unit {0}

-- an entry selects a level of the type, has no modifiers but the type's, and preserves none but its own
pub record EntryIsLawful (t : Definition) (e : TypeEntry) : Type 0 where
  pub some_level : 1 ≤ e.level
  pub level : e.level ≤ t.levels
  pub within : meet e.mask t.modifiers ≡ e.mask
  pub preserve_within : meet e.preserve e.mask ≡ e.preserve

pub record IsLawful (t : Definition) : Type 0 where
  pub some_level : 1 ≤ t.levels
  pub few_levels : t.levels ≤ MOST_LEVELS
  pub each_entry : All (EntryIsLawful t) t.entries
