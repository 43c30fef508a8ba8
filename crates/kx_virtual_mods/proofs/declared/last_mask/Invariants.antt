use Rattle.std.proofs.Common.{◌≡◌, drop}
use Rattle.std.specs.Option.{option_or}
use Rattle.kx_virtual_mods.specs.Declarations.{last_mask}
use Rattle.kx_virtual_mods.proofs.declared.last_mask.Given as goal

abbrev pub invariant-given : goal.invariant-given
invariant-given l = last_mask l.given l.number ≡ option_or (last_mask (drop l.one-index l.given) l.number) l.mask
