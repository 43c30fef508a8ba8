-- Rows so far, and the entries that they come from.
use Rattle.std.specs.Prelude.{◌≡◌, ℕ, ◌<◌, ◌==◌, ◌^◌, ◌&&◌, All, Contains, List, Option, None, Some, find, map, nat_eq}
use Rattle.std.specs.List.{IsDistinct}
use Rattle.kx_virtual_mods.specs.Sets.{has}
use Rattle.kx_mods.specs.Mods.{mask}
use Rattle.kx_tables.specs.declared.rows.EntryRow.{EntryRow}
use Rattle.kx_types.specs.declared.entry.TypeEntry.{TypeEntry}
use Rattle.kx_keys.specs.Selecting.{RealSet, are_same, is_live}

abbrev pub mask_of : EntryRow → ℕ
mask_of row = mask row.mods

abbrev pub row_at : ℕ → List EntryRow → Option EntryRow
row_at w rows = find (λ row. mask_of row == w) rows

module _ (real : ℕ → RealSet) where
  pub record IsRowOf (e : TypeEntry) (row : EntryRow) : Type 0 where
    pub mods_are : (r : ℕ) → r < 8 → has (mask row.mods) r ≡ real e.mask r
    pub level_is : row.level ≡ e.level
    pub preserve_are : (r : ℕ) → r < 8 → has (mask row.preserve) r ≡ real e.preserve r
    pub mods_fit : mask row.mods < 2 ^ 8
    pub preserve_fit : mask row.preserve < 2 ^ 8

  abbrev pub AreAlike : Option EntryRow → Option TypeEntry → Type 0
  AreAlike None None = Unit {0}
  AreAlike (Some row) (Some e) = IsRowOf e row
  AreAlike None (Some e) = ⊥
  AreAlike (Some row) None = ⊥

  abbrev pub entry_at : RealSet → List TypeEntry → Option TypeEntry
  entry_at w es = find (λ e. is_live real e.mask && are_same (real e.mask) w) es

  -- a row comes of an entry
  abbrev pub ComesOf : List TypeEntry → EntryRow → Type 0
  ComesOf es row = (e : TypeEntry) × (Contains es e) × (IsRowOf e row)

  pub record RowsOf (es : List TypeEntry) (rows : List EntryRow) : Type 0 where
    pub alike : (w : ℕ) → w < 2 ^ 8 → AreAlike (row_at w rows) (entry_at (has w) es)
    pub each : All (ComesOf es) rows
    pub apart : IsDistinct nat_eq (map mask_of rows)
