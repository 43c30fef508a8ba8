use Rattle.kx_tables.proofs.Bounds.{indicator_name_within}
use Rattle.kx_tables.proofs.tables.Tables.indicator_name.Goals as goal

pub name_at-requires : goal.name_at-requires
name_at-requires g c = rw c.names.ensures (indicator_name_within _ c.key_count-sound.ensures.sound c.args.index c.indicator_row-row.result c.indicator_row-row.ensures)
