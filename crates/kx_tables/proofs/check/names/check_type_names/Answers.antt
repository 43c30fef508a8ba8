use Rattle.std.proofs.Common.{ap, ◌≡◌, length}
use Rattle.kx_tables.proofs.Naming.{names_are_new, names_checked, on_ok}
use Rattle.kx_tables.specs.Content.{type_name}
use Rattle.kx_tables.specs.Sound.{TypeHolds}
use Rattle.kx_tables.specs.declared.check.RecordKind.TheVariants.{KeyType}
use Rattle.kx_tables.proofs.check.names.check_type_names.Goals as goal

pub returns : goal.returns
returns g c =
    let tables = g.R.Rows.content c.args.rows.now in
    let whole : c.counts.result.types ≡ length (g.R.Rows.content c.args.rows.now).types = ap (λ k. k.types) c.counts.ensures in
    record {
      ok = on_ok c.check_names.result (names_are_new tables.types (type_name tables) c.counts.result.types whole) c.check_names.ensures.ok;
      broken = names_checked tables KeyType tables.types (type_name tables) (TypeHolds tables) (λ i x holds. holds.is_new) (λ j h. h) c.counts.result.types whole c.check_names.result c.check_names.ensures.broken;
    }
