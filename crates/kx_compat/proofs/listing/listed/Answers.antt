use Rattle.std.proofs.Common.{ap, ◌∙◌}
use Rattle.kx_compat.specs.Shown.{interpretation_recorded}
use Rattle.kx_compat.proofs.Listed.{listed_more}
use Rattle.kx_compat.proofs.listing.listed.Goals as goal

pub entries-preserved : goal.entries-preserved
entries-preserved c =
    let f = interpretation_recorded c.args.records.now in
    let y = c.entries.invariant in
    (y.0, listed_more f c.args.records.now.entries c.as_slice-entry-items.result.now c.entries.entry-index c.entry-item.result _ _ _ y.0 c.entries-test.true y.1 c.in_ok-push.ensures.items (c.interpretation_among.ensures ∙ ap (λ e. f e.0) c.entry-item.is))
