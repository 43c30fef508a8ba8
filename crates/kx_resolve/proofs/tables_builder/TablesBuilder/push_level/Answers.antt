use Rattle.std.proofs.Common.{◌<◌, length, subst, sym}
use Rattle.kx_builder.specs.Resolved.{Resolved}
use Rattle.kx_builder.specs.WithinLimits.{IsWithinLimits}
use Rattle.kx_resolve.proofs.Growing.{small_with_cell}
use Rattle.kx_keys.specs.Bounds.{last_cells}
use Rattle.kx_resolve.proofs.tables_builder.TablesBuilder.push_level.Goals as goal

pub invariant_of-self-2 : goal.invariant_of-self-2
invariant_of-self-2 c =
    let few = subst (λ (r : Resolved). length (last_cells r.keys) < 64) (sym c.self.view_is) c.requires.few in
    subst IsWithinLimits (sym c.in_default.ensures.pushed) (small_with_cell c.self.inside.builder (record { syms = c.args.keysyms.now; action = c.args.action }) c.self.invariant c.requires.short few)
