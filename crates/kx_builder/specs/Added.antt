-- Tables with one more type, key, group or cell after all others.
use Rattle.std.specs.Prelude.{ℕ, ◌<◌, ◌+◌, ◌^◌, List, [], ◌∷◌, ◌++◌, length}
use Rattle.kx_builder.specs.Pushes.{change_last}
use Rattle.kx_builder.specs.Resolved.{ResolvedType, ResolvedKey, ResolvedGroup, ResolvedCell}
use Rattle.kx_tables.specs.Content.{Content}
use Rattle.kx_tables.specs.declared.rows.CellRow.{CellRow}
use Rattle.kx_tables.specs.declared.rows.EntryRow.{EntryRow}
use Rattle.kx_tables.specs.declared.rows.GroupRow.{GroupRow}
use Rattle.kx_tables.specs.declared.rows.KeyRow.{KeyRow}
use Rattle.kx_tables.specs.declared.rows.TypeRow.{TypeRow}

-- ---- A type

abbrev pub next_type : Content → ResolvedType → TypeRow
next_type c t = record {
  mods = t.mods;
  levels = t.levels;
  entries = length t.entries;
  name_length = length t.name;
  first_entry = length c.entries;
  first_name = length c.names;
}

-- the numbers of its row fit
pub record TypeFits (c : Content) (t : ResolvedType) : Type 0 where
  pub entries : length t.entries < 2 ^ 16
  pub name_length : length t.name < 2 ^ 16
  pub first_entry : length c.entries < 2 ^ 32
  pub first_name : length c.names < 2 ^ 32

abbrev pub with_type_row : Content → TypeRow → List EntryRow → List ℕ → Content
with_type_row c row entries name = record c { types = c.types ++ row ∷ []; entries = c.entries ++ entries; names = c.names ++ name }

abbrev pub type_added : Content → ResolvedType → Content
type_added c t = with_type_row c (next_type c t) t.entries t.name

-- ---- A key that has no groups yet

abbrev pub next_key : Content → ResolvedKey → KeyRow
next_key c k = record {
  code = k.code;
  modmap = k.modmap;
  range = k.range;
  groups = length k.groups;
  name_length = length k.name;
  first_name = length c.names;
  first_group = length c.groups;
}

pub record KeyFits (c : Content) (k : ResolvedKey) : Type 0 where
  pub name_length : length k.name < 2 ^ 16
  pub first_name : length c.names < 2 ^ 32
  pub first_group : length c.groups < 2 ^ 32

abbrev pub with_key_row : Content → KeyRow → List ℕ → Content
with_key_row c row name = record c { keys = c.keys ++ row ∷ []; names = c.names ++ name }

abbrev pub key_added : Content → ResolvedKey → Content
key_added c k = with_key_row c (next_key c k) k.name

-- ---- A group of the last key, that has no cells yet

abbrev pub next_group : Content → ResolvedGroup → GroupRow
next_group c g = record { key_type = g.key_type; first_cell = length c.cells }

abbrev pub with_more_groups : KeyRow → KeyRow
with_more_groups k = record k { groups = k.groups + 1 }

-- how many groups the last key has, 0 where there is no key
abbrev pub last_count : List KeyRow → ℕ
last_count [] = 0
last_count (k ∷ []) = k.groups
last_count (k ∷ l ∷ ks) = last_count (l ∷ ks)

pub record GroupFits (c : Content) : Type 0 where
  pub groups : last_count c.keys + 1 < 2 ^ 8
  pub first_cell : length c.cells < 2 ^ 32

abbrev pub with_group_row : Content → GroupRow → Content
with_group_row c row = record c { keys = change_last with_more_groups c.keys; groups = c.groups ++ row ∷ [] }

abbrev pub group_added : Content → ResolvedGroup → Content
group_added c g = with_group_row c (next_group c g)

-- ---- A cell of the last group

abbrev pub next_cell : Content → ResolvedCell → CellRow
next_cell c d = record { keysyms = length d.syms; action = d.action; first_keysym = length c.keysyms }

pub record CellFits (c : Content) (d : ResolvedCell) : Type 0 where
  pub keysyms : length d.syms < 2 ^ 8
  pub first_keysym : length c.keysyms < 2 ^ 32

abbrev pub with_cell_row : Content → CellRow → List ℕ → Content
with_cell_row c row syms = record c { cells = c.cells ++ row ∷ []; keysyms = c.keysyms ++ syms }

abbrev pub cell_added : Content → ResolvedCell → Content
cell_added c d = with_cell_row c (next_cell c d) d.syms
