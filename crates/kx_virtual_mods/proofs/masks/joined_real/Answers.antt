use Rattle.std.proofs.Common.{◌∙◌, sym, ap, arith}
use Rattle.kx_mods.specs.Mods.{mask}
use Rattle.kx_virtual_mods.specs.Masks.{joined}
use Rattle.kx_virtual_mods.proofs.Bits.{without_narrow}
use Rattle.kx_virtual_mods.proofs.masks.joined_real.Goals as goal

pub returns-in-Minus : goal.returns-in-Minus
returns-in-Minus c = c.minus.ensures ∙ without_narrow (mask c.args.mods) (mask c.args.other) (omega arith) (omega arith) ∙ ap (λ sign. joined sign (mask c.args.mods) (mask c.args.other)) (sym c.in-Minus.is)
