use Rattle.std.proofs.Common.{◌&&◌, ◌∙◌, ap}
use Rattle.kx_mods.specs.Mods.{mask}
use Rattle.kx_virtual_mods.specs.Sets.{has, has_virtual, real_part}
use Rattle.kx_virtual_mods.specs.Standing.{stands_for}
use Rattle.kx_virtual_mods.proofs.Bits.{below_goes, below_none}
use Rattle.kx_virtual_mods.proofs.standing.real_of.Goals as goal

pub numbers-init : goal.numbers-init
numbers-init c = λ real. ap (λ n. has n real) c.real-mods.ensures ∙ below_none (has (real_part c.args.set) real) (λ number. has_virtual c.args.set number && stands_for c.args.stands.now number real)

pub numbers-preserved : goal.numbers-preserved
numbers-preserved c = λ real.
    ap (λ n. has n real) c.with-mods.ensures
    ∙ below_goes (mask c.numbers.mods) (mask c.stood_for.result) real c.numbers.number (has (real_part c.args.set) real) (λ number. has_virtual c.args.set number && stands_for c.args.stands.now number real) (c.numbers.invariant real) (c.stood_for.ensures real)
