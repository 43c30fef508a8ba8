use Rattle.kx_tables.proofs.Bounds.{key_name_within}
use Rattle.kx_tables.proofs.tables.Tables.key_name.Goals as goal

pub name_at-requires : goal.name_at-requires
name_at-requires g c = rw c.names.ensures (key_name_within _ c.key_count-sound.ensures.sound c.args.index c.key_row-row.result c.key_row-row.ensures)
