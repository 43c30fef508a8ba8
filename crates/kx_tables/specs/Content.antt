-- The resolved tables of a keymap, each a list of rows. The rows say where what they own stands:
-- `first_` fields are indices, or for names a place among the bytes of all names.
use Rattle.std.specs.Prelude.{ℕ, List, [], ◌∷◌, ◌+◌, length, take, drop, sum_by, max, slice_get}
use Rattle.std.specs.Option.{option_map_or}
use Rattle.kx_tables.specs.declared.rows.CellRow.{CellRow}
use Rattle.kx_tables.specs.declared.rows.EntryRow.{EntryRow}
use Rattle.kx_tables.specs.declared.rows.GroupNameRow.{GroupNameRow}
use Rattle.kx_tables.specs.declared.rows.GroupRow.{GroupRow}
use Rattle.kx_tables.specs.declared.rows.IndicatorRow.{IndicatorRow}
use Rattle.kx_tables.specs.declared.rows.KeyRow.{KeyRow}
use Rattle.kx_tables.specs.declared.rows.TypeRow.{TypeRow}
use Rattle.kx_tables.specs.declared.tables.Counts.{Counts}

pub record Content : Type 0 where
  pub types : List TypeRow
  pub entries : List EntryRow
  pub keys : List KeyRow
  pub groups : List GroupRow
  pub cells : List CellRow
  pub keysyms : List ℕ
  pub indicators : List IndicatorRow
  pub group_names : List GroupNameRow
  -- the bytes of all names
  pub names : List ℕ

-- how many rows each table has
abbrev pub counts_of : Content → Counts
counts_of c = record {
  types = length c.types;
  entries = length c.entries;
  keys = length c.keys;
  groups = length c.groups;
  cells = length c.cells;
  keysyms = length c.keysyms;
  indicators = length c.indicators;
  group_names = length c.group_names;
  names = length c.names;
}

-- so many elements of a list, from a place on
abbrev pub part : {X : Type 0} → List X → ℕ → ℕ → List X
part xs first count = take count (drop first xs)

abbrev pub type_name : Content → TypeRow → List ℕ
type_name c t = part c.names t.first_name t.name_length

abbrev pub key_name : Content → KeyRow → List ℕ
key_name c k = part c.names k.first_name k.name_length

abbrev pub indicator_name : Content → IndicatorRow → List ℕ
indicator_name c d = part c.names d.first_name d.name_length

abbrev pub group_name : Content → GroupNameRow → List ℕ
group_name c g = part c.names g.first_name g.name_length

-- how many cells a group has: the levels of its type
abbrev pub levels_of : Content → GroupRow → ℕ
levels_of c g = option_map_or (λ t. t.levels) (slice_get c.types g.key_type) 0

-- how many types the groups use, where types are numbered by first use
abbrev pub types_used : List GroupRow → ℕ
types_used [] = 0
types_used (g ∷ gs) = max (g.key_type + 1) (types_used gs)

-- the greatest number of groups of a key, 0 where there is no key
abbrev pub greatest_groups : List KeyRow → ℕ
greatest_groups [] = 0
greatest_groups (k ∷ ks) = max k.groups (greatest_groups ks)

-- The names stand as the types', the keys', the indicators' and the groups'.
abbrev pub type_names : Content → ℕ
type_names c = sum_by (λ t. t.name_length) c.types

abbrev pub key_names : Content → ℕ
key_names c = sum_by (λ k. k.name_length) c.keys

abbrev pub indicator_names : Content → ℕ
indicator_names c = sum_by (λ d. d.name_length) c.indicators

abbrev pub group_names : Content → ℕ
group_names c = sum_by (λ g. g.name_length) c.group_names
