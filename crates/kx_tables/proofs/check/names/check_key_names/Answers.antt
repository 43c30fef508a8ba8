use Rattle.std.proofs.Common.{ap, ◌≡◌, length}
use Rattle.kx_tables.proofs.Naming.{names_are_new, names_checked, on_ok}
use Rattle.kx_tables.specs.Content.{key_name}
use Rattle.kx_tables.specs.Sound.{KeyHolds}
use Rattle.kx_tables.specs.declared.check.RecordKind.TheVariants.{Key}
use Rattle.kx_tables.proofs.check.names.check_key_names.Goals as goal

pub returns : goal.returns
returns g c =
    let tables = g.R.Rows.content c.args.rows.now in
    let whole : c.counts.result.keys ≡ length (g.R.Rows.content c.args.rows.now).keys = ap (λ k. k.keys) c.counts.ensures in
    record {
      ok = on_ok c.check_names.result (names_are_new tables.keys (key_name tables) c.counts.result.keys whole) c.check_names.ensures.ok;
      broken = names_checked tables Key tables.keys (key_name tables) (KeyHolds tables) (λ i x holds. holds.is_new) (λ j h. h) c.counts.result.keys whole c.check_names.result c.check_names.ensures.broken;
    }
