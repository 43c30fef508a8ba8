-- What is resolved is within the limits: there is so little of it that the places and counts of its tables, and of
-- whatever is pushed next, fit their numbers.
use Rattle.std.specs.Prelude.{◌<◌, ◌≤◌, ◌^◌, All, length}
use Rattle.kx_builder.specs.Resolved.{Resolved, ResolvedCell, ResolvedGroup, ResolvedKey, ResolvedType}
use Rattle.kx_basics.specs.declared.limits.TheConstants.{CODES, MOST_GROUPS, MOST_KEYSYMS, MOST_LEVELS, MOST_NAME_BYTES}

pub record TypeIsWithinLimits (t : ResolvedType) : Type 0 where
  pub few_entries : length t.entries < 2 ^ 16
  pub short_name : length t.name ≤ MOST_NAME_BYTES

abbrev pub CellIsWithinLimits : ResolvedCell → Type 0
CellIsWithinLimits d = length d.syms ≤ MOST_KEYSYMS

pub record GroupIsWithinLimits (g : ResolvedGroup) : Type 0 where
  pub few_cells : length g.cells ≤ MOST_LEVELS
  pub small_cells : All CellIsWithinLimits g.cells

pub record KeyIsWithinLimits (k : ResolvedKey) : Type 0 where
  pub short_name : length k.name ≤ MOST_NAME_BYTES
  pub few_groups : length k.groups ≤ MOST_GROUPS
  pub small_groups : All GroupIsWithinLimits k.groups

pub record IsWithinLimits (r : Resolved) : Type 0 where
  pub few_types : length r.types < 2 ^ 16
  pub small_types : All TypeIsWithinLimits r.types
  pub few_keys : length r.keys ≤ CODES
  pub small_keys : All KeyIsWithinLimits r.keys
