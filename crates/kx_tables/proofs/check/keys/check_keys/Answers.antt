use Rattle.std.proofs.Common.{refl}
use Rattle.kx_tables.proofs.Growing.{keys_more}
use Rattle.kx_tables.proofs.check.keys.check_keys.Goals as goal

pub loop-index-preserved : goal.loop-index-preserved
loop-index-preserved g c = let h = c.if-not-is_numbered.ensures in keys_more _ _ _ _ _ _ _ c.key_row-row.result c.key_row-row.ensures c.loop-index.invariant (h.0 refl) c.if-row-next.false c.from-groups.ensures c.from-names.ensures
