use Rattle.std.proofs.Common.{ap, ◌≡◌, length}
use Rattle.kx_tables.proofs.Naming.{names_are_new, names_checked, on_ok}
use Rattle.kx_tables.specs.Content.{indicator_name}
use Rattle.kx_tables.specs.Sound.{IndicatorHolds}
use Rattle.kx_tables.specs.declared.check.RecordKind.TheVariants.{Indicator}
use Rattle.kx_tables.proofs.check.names.check_indicator_names.Goals as goal

pub returns : goal.returns
returns g c =
    let tables = g.R.Rows.content c.args.rows.now in
    let whole : c.counts.result.indicators ≡ length (g.R.Rows.content c.args.rows.now).indicators = ap (λ k. k.indicators) c.counts.ensures in
    record {
      ok = on_ok c.check_names.result (names_are_new tables.indicators (indicator_name tables) c.counts.result.indicators whole) c.check_names.ensures.ok;
      broken = names_checked tables Indicator tables.indicators (indicator_name tables) (IndicatorHolds tables) (λ i x holds. holds.is_new) (λ j h. h) c.counts.result.indicators whole c.check_names.result c.check_names.ensures.broken;
    }
