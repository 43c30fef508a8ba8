use Rattle.std.proofs.Common.{arith}
use Rattle.kx_tables.proofs.Growing.{greatest_more}
use Rattle.kx_tables.proofs.tables.most_groups.Goals as goal

pub loop-index-preserved : goal.loop-index-preserved
loop-index-preserved g c = omega (arith, greatest_more (g.R.Rows.content c.args.rows.now).keys c.loop-index.index c.key_row.result c.key_row.ensures)
