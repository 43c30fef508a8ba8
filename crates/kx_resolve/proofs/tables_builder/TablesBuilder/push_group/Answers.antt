use Rattle.std.proofs.Common.{◌<◌, arith, length, subst, sym}
use Rattle.std.proofs.lemmas.List.Elements.{All-nil}
use Rattle.kx_builder.specs.Pushes.{last_groups}
use Rattle.kx_builder.specs.Resolved.{Resolved}
use Rattle.kx_builder.specs.WithinLimits.{CellIsWithinLimits, IsWithinLimits}
use Rattle.kx_resolve.proofs.Growing.{small_with_group}
use Rattle.kx_resolve.specs.Bare.{bare_group}
use Rattle.kx_resolve.proofs.tables_builder.TablesBuilder.push_group.Goals as goal

pub invariant_of-self-2 : goal.invariant_of-self-2
invariant_of-self-2 c =
    let few = subst (λ (r : Resolved). length (last_groups r.keys) < 32) (sym c.self.view_is) c.requires.few in
    subst IsWithinLimits (sym c.in_default.ensures.pushed) (small_with_group c.self.inside.builder (bare_group c.args.key_type) c.self.invariant (record { few_cells = omega arith; small_cells = All-nil CellIsWithinLimits }) few)
