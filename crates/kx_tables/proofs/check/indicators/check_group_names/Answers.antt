use Rattle.std.proofs.Common.{refl, ap, subst, ℕ}
use Rattle.kx_tables.specs.SoFar.{GroupNameNumbers}
use Rattle.kx_tables.proofs.Growing.{group_names_more}
use Rattle.kx_tables.proofs.check.indicators.check_group_names.Goals as goal

pub loop-index-preserved : goal.loop-index-preserved
loop-index-preserved g c =
    let h = c.if-not-is_named.ensures in
    group_names_more _ _ _ _ c.group_name_row-row.result c.group_name_row-row.ensures c.loop-index.invariant
    (subst (λ (n : ℕ). GroupNameNumbers c.group_name_row-row.result c.loop-index.index n c.loop-index.names) (ap (λ k. k.group_names) c.counts-counts.ensures) (h.0 refl)) c.from-names.ensures
