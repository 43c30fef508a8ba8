-- What the fields of a key type say together: its modifiers, its levels, and its entries, each a mask of modifiers with
-- the level that it selects and the modifiers that it preserves.
use Rattle.std.specs.Prelude.{ℕ, ◌==◌, nat_eq, max, List, map, fold, Option, None, Some, unwrap_or, if◌then◌else◌}
use Rattle.kx_virtual_mods.specs.Sets.{meet}
use Rattle.kx_merge.specs.Last.{last_given}
use Rattle.kx_types.specs.Firsts.{each_once}
use Rattle.kx_types.specs.declared.saying.Saying.{Saying}
use Rattle.kx_types.specs.declared.saying.Saying.TheVariants.{Modifiers, Map, Preserve, LevelName}
use Rattle.kx_types.specs.declared.entry.TypeEntry.{TypeEntry}

pub record Definition : Type 0 where
  -- those that select a level
  pub modifiers : ℕ
  pub levels : ℕ
  pub entries : List TypeEntry

abbrev pub written_modifiers : Saying → Option ℕ
written_modifiers (Modifiers names) = Some names
written_modifiers _ = None

-- the modifiers written last; none where none are written
abbrev pub modifiers_of : List Saying → ℕ
modifiers_of said = unwrap_or (last_given written_modifiers None said) 0

-- the level that a field names
abbrev pub level_in : Saying → ℕ
level_in (Map mask level) = level
level_in (LevelName level) = level
level_in _ = 0

-- the greatest level that is named, at least 1
abbrev pub levels_of : List Saying → ℕ
levels_of said = fold (λ most s. max most (level_in s)) 1 said

-- a mask counts only as far as it lies within the type's modifiers
module _ (modifiers : ℕ) where
  -- the mask of the entry that a field is about
  abbrev pub mask_in : Saying → Option ℕ
  mask_in (Map mask level) = Some (meet mask modifiers)
  mask_in (Preserve mask kept) = Some (meet mask modifiers)
  mask_in _ = None

  abbrev pub mapped : ℕ → Saying → Option ℕ
  mapped mask (Map written level) = if meet written modifiers == mask then Some level else None
  mapped mask _ = None

  abbrev pub preserved : ℕ → Saying → Option ℕ
  preserved mask (Preserve written kept) = if meet written modifiers == mask then Some kept else None
  preserved mask _ = None

  -- a mask's entry: the level that it is mapped to last, else 1, and of what it preserves last what lies within the mask
  abbrev pub entry_of : List Saying → ℕ → TypeEntry
  entry_of said mask = record { mask = mask; level = unwrap_or (last_given (mapped mask) None said) 1; preserve = meet (unwrap_or (last_given (preserved mask) None said) 0) mask }

  -- in the order in which their masks are first mentioned
  abbrev pub entries_of : List Saying → List TypeEntry
  entries_of said = map (entry_of said) (each_once nat_eq mask_in said)

abbrev pub definition_of : List Saying → Definition
definition_of said = record { modifiers = modifiers_of said; levels = levels_of said; entries = entries_of (modifiers_of said) said }

-- ---- Under names, for clauses and proofs

abbrev pub entry_with : (ℕ → Option ℕ) → (ℕ → Option ℕ) → ℕ → TypeEntry
entry_with level kept mask = record { mask = mask; level = unwrap_or (level mask) 1; preserve = meet (unwrap_or (kept mask) 0) mask }
