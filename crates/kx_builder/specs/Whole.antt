-- What is resolved is whole: each group has a cell for each level of its type, and each entry gives one of the levels.
use Rattle.std.specs.Prelude.{ℕ, ◌≡◌, ◌≤◌, All, List, length, slice_get}
use Rattle.std.specs.Option.{IsSomeAnd}
use Rattle.kx_builder.specs.Resolved.{Resolved, ResolvedEntry, ResolvedType, ResolvedGroup, ResolvedKey}

pub record LevelExists (levels : ℕ) (e : ResolvedEntry) : Type 0 where
  pub some_level : 1 ≤ e.level
  pub level_within : e.level ≤ levels

pub record TypeIsWhole (t : ResolvedType) : Type 0 where
  pub some_level : 1 ≤ t.levels
  pub level_of_each : All (LevelExists t.levels) t.entries

abbrev pub GroupIsWhole : List ResolvedType → ResolvedGroup → Type 0
GroupIsWhole types g = IsSomeAnd (slice_get types g.key_type) (λ t. length g.cells ≡ t.levels)

abbrev pub KeyIsWhole : List ResolvedType → ResolvedKey → Type 0
KeyIsWhole types k = All (GroupIsWhole types) k.groups

pub record IsWhole (r : Resolved) : Type 0 where
  pub each_type : All TypeIsWhole r.types
  pub each_key : All (KeyIsWhole r.types) r.keys
