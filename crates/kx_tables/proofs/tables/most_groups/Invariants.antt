use Rattle.std.proofs.Common.{◌≡◌, take}
use Rattle.kx_tables.specs.Content.{greatest_groups}
use Rattle.kx_tables.proofs.tables.most_groups.Given as goal

abbrev pub invariant-loop-index : goal.invariant-loop-index
invariant-loop-index g l = l.greatest ≡ greatest_groups (take l.index (g.R.Rows.content l.rows).keys)
