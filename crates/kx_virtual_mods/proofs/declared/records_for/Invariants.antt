use Rattle.std.proofs.Common.{map, take}
use Rattle.kx_tree.specs.declared.tree.Mode.{Mode}
use Rattle.kx_virtual_mods.specs.Declarations.{mask_offer}
use Rattle.kx_virtual_mods.proofs.Offering.{Offered}
use Rattle.kx_virtual_mods.proofs.declared.records_for.Given as goal

abbrev pub invariant-numbers : goal.invariant-numbers
invariant-numbers l = (mode : Mode) → Offered mode l.records.items (map (mask_offer mode l.given) (take l.number-index l.numbers))
