-- What the rows of a key type's entries show.
use Rattle.std.specs.Prelude.{◌≡◌, ℕ, zero, suc, ◌+◌, ◌<◌, ◌≤◌, ◌==◌, ◌^◌, ◌&&◌, ◌++◌, not, All, Bool, List, [], ◌∷◌, fold, length, if◌then◌else◌}
use Rattle.std.specs.Int.RustNames.{bit_or}
use Rattle.std.specs.List.{list_any}
use Rattle.kx_basics.specs.declared.limits.TheConstants.{MOST_NAME_BYTES}
use Rattle.kx_builder.specs.Valid.{TypeIsValid}
use Rattle.kx_builder.specs.Resolved.{ResolvedType, consumed_mods, entry_chosen}
use Rattle.kx_virtual_mods.specs.Sets.{has}
use Rattle.kx_mods.specs.Mods.{mask}
use Rattle.kx_mods.specs.declared.mods.Mods.{Mods}
use Rattle.kx_tables.specs.Keymap.{level_of}
use Rattle.kx_tables.specs.declared.rows.EntryRow.{EntryRow}
use Rattle.kx_types.specs.KeyTypes.{Definition}
use Rattle.kx_types.specs.declared.entry.TypeEntry.{TypeEntry}
use Rattle.kx_keys.specs.Selecting.{RealSet, consumed, is_live, level_selected}

-- the mask of those of a set below a number
unfoldable pub mask_below : ℕ → RealSet → ℕ
mask_below zero s = 0
mask_below (suc n) s = bit_or (mask_below n s) (if s n then 2 ^ n else 0)

-- a set of the eight real modifiers as a mask
abbrev pub set_mask : RealSet → ℕ
set_mask s = mask_below 8 s

abbrev pub mods_of : RealSet → Mods
mods_of s = record { 0 = set_mask s }

module _ (real : ℕ → RealSet) where
  abbrev pub row_of : TypeEntry → EntryRow
  row_of e = record { mods = mods_of (real e.mask); level = e.level; preserve = mods_of (real e.preserve) }

  abbrev pub has_row : ℕ → List EntryRow → Bool
  has_row m rows = list_any (λ (row : EntryRow). mask row.mods == m) rows

  -- an entry that is live has a row, where no earlier one has the same modifiers
  abbrev pub with_entry : List EntryRow → TypeEntry → List EntryRow
  with_entry rows e = if is_live real e.mask && not (has_row (set_mask (real e.mask)) rows) then rows ++ row_of e ∷ [] else rows

  abbrev pub entry_rows : List TypeEntry → List EntryRow
  entry_rows es = fold with_entry [] es

abbrev pub resolved_type : List ℕ → Definition → Mods → List EntryRow → ResolvedType
resolved_type name t mods rows = record { name = name; mods = mods; levels = t.levels; entries = rows }

-- for every set of real modifiers the rows give the level and the consumed modifiers that the type gives
pub record RowsShow (real : ℕ → RealSet) (t : Definition) (mods : Mods) (rows : List EntryRow) : Type 0 where
  pub mods_are : (r : ℕ) → has (mask mods) r ≡ real t.modifiers r
  pub levels_are : (name : List ℕ) (w : ℕ) → w < 2 ^ 8 → level_of (entry_chosen (resolved_type name t mods rows) w) + 1 ≡ level_selected real t (has w)
  pub consumed_are : (name : List ℕ) (w r : ℕ) → w < 2 ^ 8 → r < 8 → has (consumed_mods (resolved_type name t mods rows) (entry_chosen (resolved_type name t mods rows) w)) r ≡ consumed real t (has w) r

-- with a name that a type may have they keep the rules of tables
abbrev pub RowsAreValid : Definition → Mods → List EntryRow → Type 0
RowsAreValid t mods rows = (name : List ℕ) → length name ≤ MOST_NAME_BYTES → All (λ b. b < 2 ^ 8) name → TypeIsValid (resolved_type name t mods rows)
