use Rattle.kx_tables.proofs.Bounds.{type_name_within}
use Rattle.kx_image.proofs.view.View.type_name.Goals as goal

pub name-requires : goal.name-requires
name-requires c = type_name_within c.self.inside.layout c.self.invariant.0 c.args.index c.type_row-row.result c.type_row-row.ensures
