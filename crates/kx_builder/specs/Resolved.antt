-- What a keymap's statements resolve to: types and keys as a tree, with no indices but a group's type.
use Rattle.std.specs.Prelude.{ℕ, pos, List, [], ◌∷◌, ◌==◌, Option, None, Some, cond, find, is_some, length, max, slice_get}
use Rattle.std.specs.Int.RustNames.{bit_and}
use Rattle.kx_mods.specs.Mods.{mask, mask_without}
use Rattle.kx_mods.specs.declared.mods.Mods.{Mods}
use Rattle.kx_tables.specs.Keymap.{Keymap, Shown, level_of, nothing_shown}
use Rattle.kx_tables.specs.Range.{in_range}
use Rattle.kx_tables.specs.declared.rows.Action.{Action}
use Rattle.kx_tables.specs.declared.rows.EntryRow.{EntryRow}
use Rattle.kx_tables.specs.declared.rows.Range.{Range}

-- the modifiers that select a level, those of them that aren't consumed, and the level, counted from 1: an entry's
-- row holds no more
abbrev pub ResolvedEntry : Type 0
ResolvedEntry = EntryRow

pub record ResolvedType : Type 0 where
  pub name : List ℕ
  -- the modifiers that select a level
  pub mods : Mods
  pub levels : ℕ
  pub entries : List ResolvedEntry

-- a level of a group: its keysyms, and what it does
pub record ResolvedCell : Type 0 where
  pub syms : List ℕ
  pub action : Action

pub record ResolvedGroup : Type 0 where
  -- its place among the types
  pub key_type : ℕ
  -- one for each level of its type
  pub cells : List ResolvedCell

pub record ResolvedKey : Type 0 where
  pub code : ℕ
  pub name : List ℕ
  -- the real modifiers that the key is mapped to
  pub modmap : Mods
  -- what becomes of a group that the key doesn't have
  pub range : Range
  pub groups : List ResolvedGroup

pub record Resolved : Type 0 where
  pub types : List ResolvedType
  pub keys : List ResolvedKey

abbrev pub nothing_resolved : Resolved
nothing_resolved = record { types = []; keys = [] }

-- ---- The keymap

-- the greatest number of groups of a key, 0 where there is no key
abbrev pub most_groups : List ResolvedKey → ℕ
most_groups [] = 0
most_groups (k ∷ ks) = max (length k.groups) (most_groups ks)

-- the first entry of the type whose modifiers are the effective ones, cut to the type's
abbrev pub entry_chosen : ResolvedType → ℕ → Option ResolvedEntry
entry_chosen t mods = find (λ e. mask e.mods == bit_and mods (mask t.mods)) t.entries

-- the type's modifiers without what the entry preserves
abbrev pub consumed_mods : ResolvedType → Option ResolvedEntry → ℕ
consumed_mods t None = mask t.mods
consumed_mods t (Some e) = mask_without (mask t.mods) (mask e.preserve)

abbrev pub shown_of_cell : ℕ → Option ResolvedCell → Shown
shown_of_cell consumed None = nothing_shown
shown_of_cell consumed (Some d) = record { syms = d.syms; consumed = consumed; action = d.action }

abbrev pub shown_of_type : ResolvedGroup → ℕ → Option ResolvedType → Shown
shown_of_type g mods None = nothing_shown
shown_of_type g mods (Some t) =
    let entry = entry_chosen t mods in
    shown_of_cell (consumed_mods t entry) (slice_get g.cells (level_of entry))

abbrev pub shown_of_group : Resolved → ℕ → Option ResolvedGroup → Shown
shown_of_group r mods None = nothing_shown
shown_of_group r mods (Some g) = shown_of_type g mods (slice_get r.types g.key_type)

-- a key without groups gives nothing
abbrev pub shown_of_key : Resolved → ℕ → ℕ → Option ResolvedKey → Shown
shown_of_key r group mods None = nothing_shown
shown_of_key r group mods (Some k) =
    cond (length k.groups == 0) nothing_shown
    (shown_of_group r mods (slice_get k.groups (in_range (pos group) (length k.groups) k.range)))

abbrev pub key_coded : Resolved → ℕ → Option ResolvedKey
key_coded r code = find (λ k. k.code == code) r.keys

abbrev pub keymap_of_resolved : Resolved → Keymap
keymap_of_resolved r = record {
  groups = max 1 (most_groups r.keys);
  known = λ code. is_some (key_coded r code);
  shown = λ code group mods. shown_of_key r group mods (key_coded r code);
  indicator_maps = [];
}
