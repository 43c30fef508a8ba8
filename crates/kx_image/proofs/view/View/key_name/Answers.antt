use Rattle.kx_tables.proofs.Bounds.{key_name_within}
use Rattle.kx_image.proofs.view.View.key_name.Goals as goal

pub name-requires : goal.name-requires
name-requires c = key_name_within c.self.inside.layout c.self.invariant.0 c.args.index c.key_row-row.result c.key_row-row.ensures
