use Rattle.std.proofs.Common.{refl, ap, subst, ℕ, arith, length, ◌≡◌}
use Rattle.kx_tables.specs.SoFar.{GroupNumbers}
use Rattle.kx_tables.proofs.Growing.{groups_more, unused_breaks}
use Rattle.kx_tables.proofs.check.groups.check_groups.Goals as goal

pub loop-index-preserved : goal.loop-index-preserved
loop-index-preserved g c =
    let h = c.if-not-is_numbered.ensures in
    groups_more _ _ _ _ _ _ c.group_row-row.result c.type_row.result c.group_row-row.ensures c.type_row.ensures c.loop-index.invariant
    (subst (λ (n : ℕ). GroupNumbers c.group_row-row.result n c.loop-index.used c.loop-index.cells) (ap (λ k. k.types) c.counts-counts.ensures) (h.0 refl)) c.max-used.ensures c.from-cells.ensures

pub returns-then-used-counts-clause-broken : goal.returns-then-used-counts-clause-broken
returns-then-used-counts-clause-broken g c =
    let whole : c.loop-index.index ≡ length (g.R.Rows.content c.args.rows.now).groups = omega (arith, ap (λ k. k.groups) c.counts-counts.ensures) in
    let used_is : c.from-then-used-counts.result ≡ c.loop-index.used = c.from-then-used-counts.ensures in
    rw used_is (unused_breaks (g.R.Rows.content c.args.rows.now) c.loop-index.used c.loop-index.cells
    (rw whole at c.loop-index.invariant)
    (omega (arith, ap (λ k. k.types) c.counts-counts.ensures)))
