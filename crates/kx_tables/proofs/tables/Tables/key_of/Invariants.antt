use Rattle.std.proofs.Common.{◌-◌}
use Rattle.kx_tables.proofs.Finding.{Narrows}
use Rattle.kx_tables.proofs.tables.Tables.key_of.Given as goal

abbrev pub invariant-loop-low : goal.invariant-loop-low
invariant-loop-low g l = Narrows (g.Self.Rows.content l.self) l.code l.low l.high

abbrev pub decreases-loop-low : goal.decreases-loop-low
decreases-loop-low g l = l.high - l.low
