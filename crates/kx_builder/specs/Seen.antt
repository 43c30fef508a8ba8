-- What tables show of types and keys, as a tree.
use Rattle.std.specs.Prelude.{ℕ, List, [], ◌∷◌, ◌-◌, length, map}
use Rattle.kx_builder.specs.Resolved.{Resolved, ResolvedType, ResolvedKey, ResolvedGroup, ResolvedCell}
use Rattle.kx_tables.specs.Content.{Content, key_name, part, type_name}
use Rattle.kx_tables.specs.declared.rows.CellRow.{CellRow}
use Rattle.kx_tables.specs.declared.rows.GroupRow.{GroupRow}
use Rattle.kx_tables.specs.declared.rows.KeyRow.{KeyRow}
use Rattle.kx_tables.specs.declared.rows.TypeRow.{TypeRow}

abbrev pub type_seen : Content → TypeRow → ResolvedType
type_seen c t = record { name = type_name c t; mods = t.mods; levels = t.levels; entries = part c.entries t.first_entry t.entries }

abbrev pub cell_seen : Content → CellRow → ResolvedCell
cell_seen c d = record { syms = part c.keysyms d.first_keysym d.keysyms; action = d.action }

-- where the cells of a group end: the first cell of the next group, or the end of all
abbrev pub cells_end : Content → List GroupRow → ℕ
cells_end c [] = length c.cells
cells_end c (g ∷ gs) = g.first_cell

abbrev pub groups_seen : Content → List GroupRow → List ResolvedGroup
groups_seen c [] = []
groups_seen c (g ∷ gs) =
    record { key_type = g.key_type; cells = part (map (cell_seen c) c.cells) g.first_cell (cells_end c gs - g.first_cell) }
    ∷ groups_seen c gs

abbrev pub key_seen : Content → KeyRow → ResolvedKey
key_seen c k = record {
  code = k.code;
  name = key_name c k;
  modmap = k.modmap;
  range = k.range;
  groups = part (groups_seen c c.groups) k.first_group k.groups;
}

abbrev pub seen : Content → Resolved
seen c = record { types = map (type_seen c) c.types; keys = map (key_seen c) c.keys }
