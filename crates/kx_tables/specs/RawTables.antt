-- The content of tables that are kept in vectors.
use Rattle.kx_tables.specs.Content.{Content}
use Rattle.kx_tables.specs.declared.owned.RawTables.{RawTables}

abbrev pub content_of : RawTables → Content
content_of p = record {
  types = p.types.items;
  entries = p.entries.items;
  keys = p.keys.items;
  groups = p.groups.items;
  cells = p.cells.items;
  keysyms = p.keysyms.items;
  indicators = p.indicators.items;
  group_names = p.group_names.items;
  names = p.names.items;
}
