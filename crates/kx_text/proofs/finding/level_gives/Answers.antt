use Rattle.kx_tables.proofs.Bounds.{keysyms_within}
use Rattle.kx_text.proofs.finding.level_gives.Goals as goal

pub cell_gives-requires-clause-within : goal.cell_gives-requires-clause-within
cell_gives-requires-clause-within g c =
    keysyms_within (g.T.Rows.content c.args.tables.now) c.requires.sound _ c.cell_row-cell.result c.cell_row-cell.ensures
