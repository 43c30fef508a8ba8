use Rattle.kx_tables.proofs.Bounds.{type_name_within}
use Rattle.kx_tables.proofs.tables.Tables.type_name.Goals as goal

pub name_at-requires : goal.name_at-requires
name_at-requires g c = rw c.names.ensures (type_name_within _ c.key_count-sound.ensures.sound c.args.index c.type_row-row.result c.type_row-row.ensures)
