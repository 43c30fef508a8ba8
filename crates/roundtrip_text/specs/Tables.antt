-- The groups of tables as a tree, each by its own row.
use Rattle.std.specs.Prelude.{map}
use Rattle.kx_builder.specs.Resolved.{ResolvedGroup}
use Rattle.kx_builder.specs.Seen.{cell_seen}
use Rattle.kx_tables.specs.Content.{Content, levels_of, part}
use Rattle.kx_tables.specs.declared.rows.GroupRow.{GroupRow}

abbrev pub group_seen : Content → GroupRow → ResolvedGroup
group_seen c g = record { key_type = g.key_type; cells = part (map (cell_seen c) c.cells) g.first_cell (levels_of c g) }
