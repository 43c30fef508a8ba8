-- The tables that hold what is resolved: a row for each type, key, group and cell, which says where what it owns
-- stands, after what those before it own.
use Rattle.std.specs.Prelude.{ℕ, List, [], ◌∷◌, ◌++◌, ◌+◌, length}
use Rattle.std.specs.List.{flat_map}
use Rattle.kx_builder.specs.Resolved.{Resolved, ResolvedType, ResolvedKey, ResolvedGroup, ResolvedCell}
use Rattle.kx_tables.specs.Content.{Content}
use Rattle.kx_tables.specs.declared.rows.CellRow.{CellRow}
use Rattle.kx_tables.specs.declared.rows.EntryRow.{EntryRow}
use Rattle.kx_tables.specs.declared.rows.GroupRow.{GroupRow}
use Rattle.kx_tables.specs.declared.rows.KeyRow.{KeyRow}
use Rattle.kx_tables.specs.declared.rows.TypeRow.{TypeRow}

-- a row for each thing, made of those before it and of the thing
abbrev pub rows_behind : {X R : Type 0} → (List X → X → R) → List X → List X → List R
rows_behind row before [] = []
rows_behind row before (x ∷ xs) = row before x ∷ rows_behind row (before ++ x ∷ []) xs

abbrev pub rows_of : {X R : Type 0} → (List X → X → R) → List X → List R
rows_of row xs = rows_behind row [] xs

-- ---- What stands in one table, of all owners in order

abbrev pub all_entries : List ResolvedType → List EntryRow
all_entries ts = flat_map (λ t. t.entries) ts

abbrev pub all_groups : List ResolvedKey → List ResolvedGroup
all_groups ks = flat_map (λ k. k.groups) ks

abbrev pub all_cells : List ResolvedGroup → List ResolvedCell
all_cells gs = flat_map (λ g. g.cells) gs

abbrev pub all_keysyms : List ResolvedCell → List ℕ
all_keysyms ds = flat_map (λ d. d.syms) ds

abbrev pub names_of_types : List ResolvedType → List ℕ
names_of_types ts = flat_map (λ t. t.name) ts

abbrev pub names_of_keys : List ResolvedKey → List ℕ
names_of_keys ks = flat_map (λ k. k.name) ks

-- ---- Rows

abbrev pub type_row : List ResolvedType → ResolvedType → TypeRow
type_row before t = record {
  mods = t.mods;
  levels = t.levels;
  entries = length t.entries;
  name_length = length t.name;
  first_entry = length (all_entries before);
  first_name = length (names_of_types before);
}

-- the keys' names stand after those of all types
abbrev pub key_row : List ResolvedType → List ResolvedKey → ResolvedKey → KeyRow
key_row types before k = record {
  code = k.code;
  modmap = k.modmap;
  range = k.range;
  groups = length k.groups;
  name_length = length k.name;
  first_name = length (names_of_types types) + length (names_of_keys before);
  first_group = length (all_groups before);
}

abbrev pub group_row : List ResolvedGroup → ResolvedGroup → GroupRow
group_row before g = record { key_type = g.key_type; first_cell = length (all_cells before) }

abbrev pub cell_row : List ResolvedCell → ResolvedCell → CellRow
cell_row before d = record { keysyms = length d.syms; action = d.action; first_keysym = length (all_keysyms before) }

abbrev pub content_of_resolved : Resolved → Content
content_of_resolved r =
    let groups = all_groups r.keys in
    let cells = all_cells groups in
    record {
      types = rows_of type_row r.types;
      entries = all_entries r.types;
      keys = rows_of (key_row r.types) r.keys;
      groups = rows_of group_row groups;
      cells = rows_of cell_row cells;
      keysyms = all_keysyms cells;
      indicators = [];
      group_names = [];
      names = names_of_types r.types ++ names_of_keys r.keys;
    }
