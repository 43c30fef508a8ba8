use Rattle.std.proofs.Common.{arith}
use Rattle.kx_tables.proofs.Finding.{key_found, key_missing}
use Rattle.kx_tables.proofs.tables.Tables.key_of.Goals as goal

pub returns-then-found-code : goal.returns-then-found-code
returns-then-found-code g c = (omega arith, key_found (g.Self.Rows.content c.args.self.now) _ _ c.key_row-found.result c.key_count-high.ensures.sound c.key_row-found.ensures c.if-found-code.true)

pub returns : goal.returns
returns g c = key_missing (g.Self.Rows.content c.args.self.now) _ c.loop-low.low c.loop-low.high c.loop-low.invariant c.loop-low-test.false
