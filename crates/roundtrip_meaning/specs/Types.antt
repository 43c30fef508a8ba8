-- What a printed key type defines.
use Rattle.std.specs.Prelude.{map}
use Rattle.kx_builder.specs.Resolved.{ResolvedType}
use Rattle.kx_mods.specs.Mods.{mask}
use Rattle.kx_tables.specs.declared.rows.EntryRow.{EntryRow}
use Rattle.kx_types.specs.KeyTypes.{Definition}
use Rattle.kx_types.specs.declared.entry.TypeEntry.{TypeEntry}

abbrev pub entry_seen : EntryRow → TypeEntry
entry_seen e = record { mask = mask e.mods; level = e.level; preserve = mask e.preserve }

abbrev pub definition_seen : ResolvedType → Definition
definition_seen t = record { modifiers = mask t.mods; levels = t.levels; entries = map entry_seen t.entries }
