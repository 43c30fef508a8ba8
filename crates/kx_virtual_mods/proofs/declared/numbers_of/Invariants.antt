use Rattle.std.proofs.Common.{◌≡◌, drop, fold, map, nat_eq}
use Rattle.kx_merge.specs.Offers.{with_name}
use Rattle.kx_virtual_mods.specs.Declarations.{Given, numbers_of}
use Rattle.kx_virtual_mods.proofs.declared.numbers_of.Given as goal

abbrev pub invariant-given : goal.invariant-given
invariant-given l = numbers_of l.given ≡ fold (with_name nat_eq) l.numbers.items (map (λ (g : Given). g.0) (drop l.one-index l.given))
