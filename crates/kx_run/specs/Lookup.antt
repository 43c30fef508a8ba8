-- What a look-up in tables finds.
use Rattle.std.specs.Prelude.{ℕ, ◌≡◌, ◌+◌, ◌^◌, ◌<◌, ◌≤◌, List, length, Option, Some, None, slice_get, get_or}
use Rattle.kx_mods.specs.Mods.{mask}
use Rattle.kx_tables.specs.Content.{Content, part}
use Rattle.kx_tables.specs.Keymap.{Shown, cell_shows, consumed_by, entry_for, group_shows, key_with, level_of}
use Rattle.kx_tables.specs.declared.rows.GroupRow.{GroupRow}
use Rattle.kx_tables.specs.declared.rows.EntryRow.{EntryRow}
use Rattle.kx_tables.specs.declared.rows.KeyRow.{KeyRow}
use Rattle.kx_tables.specs.declared.rows.TypeRow.{TypeRow}
use Rattle.kx_run.specs.Held.{action_size}
use Rattle.kx_run.specs.declared.choices.Choice.{Choice}
use Rattle.kx_run.specs.declared.lookup.Found.{Found}

-- what was found, as the keymap tells it
abbrev pub found_shows : Content → Found → Shown
found_shows c found = record { syms = part c.keysyms found.cell.first_keysym found.cell.keysyms; consumed = mask found.consumed; action = found.cell.action }

-- the keysyms of what was found are at most eight of the table's, and its action is small
pub record IsReadable (c : Content) (found : Found) : Type 0 where
  pub few : found.cell.keysyms ≤ 8
  pub within : found.cell.first_keysym + found.cell.keysyms ≤ length c.keysyms
  pub fits : length c.keysyms < 2 ^ 32
  pub size : action_size found.cell.action ≤ 32

-- for each code the key that tables have
pub record TellsKeys (keys : List (Option KeyRow)) (c : Content) : Type 0 where
  pub told : (code : ℕ) (d : Option KeyRow) → code < length keys → get_or keys code d ≡ key_with c code
  pub others : (code : ℕ) → length keys ≤ code → key_with c code ≡ None

-- the entries of a type name its levels, counted from 1
pub record NamesLevels (c : Content) (t : TypeRow) : Type 0 where
  pub some : (place : ℕ) (e : EntryRow) → t.first_entry ≤ place → place < t.first_entry + t.entries → slice_get c.entries place ≡ Some e → 1 ≤ e.level
  pub most : (place : ℕ) (e : EntryRow) → t.first_entry ≤ place → place < t.first_entry + t.entries → slice_get c.entries place ≡ Some e → e.level ≤ t.levels

-- what a type gives under some modifiers: one of its levels, counted from 0, and the modifiers that are used up
pub record Chooses (c : Content) (t : TypeRow) (mods : ℕ) (choice : Choice) : Type 0 where
  pub level : choice.level ≡ level_of (entry_for c t mods)
  pub consumed : mask choice.consumed ≡ consumed_by t (entry_for c t mods)
  pub within : choice.level < t.levels

-- what a group shows at the level that its type gives, and what the group at a place shows
abbrev pub shown_at : Content → GroupRow → Choice → Shown
shown_at c group choice = cell_shows c (mask choice.consumed) (slice_get c.cells (group.first_cell + choice.level))

abbrev pub shown_in : Content → ℕ → ℕ → Shown
shown_in c place mods = group_shows c mods (slice_get c.groups place)

-- what the type at a place gives
abbrev pub Gives : Content → ℕ → ℕ → Choice → Type 0
Gives c place mods choice = (t : TypeRow) → slice_get c.types place ≡ Some t → Chooses c t mods choice

-- a choice of a type: its modifiers, and what it gives under those of them that are set
pub record IsChoice (c : Content) (t : TypeRow) (choice : Choice) : Type 0 where
  pub type_mods : mask choice.type_mods ≡ mask t.mods
  pub chosen : Chooses c t (mask choice.mods) choice

-- for each type of tables a choice
pub record TellsChoices (choices : List Choice) (c : Content) : Type 0 where
  pub long : length choices ≡ length c.types
  pub each : (i : ℕ) (t : TypeRow) (d : Choice) → slice_get c.types i ≡ Some t → IsChoice c t (get_or choices i d)
