use Rattle.kx_tables.proofs.Bounds.{group_name_within}
use Rattle.kx_tables.proofs.tables.Tables.group_name.Goals as goal

pub name_at-requires : goal.name_at-requires
name_at-requires g c = rw c.names.ensures (group_name_within _ c.key_count-sound.ensures.sound c.args.index c.group_name_row-row.result c.group_name_row-row.ensures)
