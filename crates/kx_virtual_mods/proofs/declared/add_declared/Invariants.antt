use Rattle.std.proofs.Common.{◌≡◌, drop}
use Rattle.std.specs.List.{flat_map}
use Rattle.kx_virtual_mods.specs.Counted.{with_names}
use Rattle.kx_virtual_mods.specs.Declarations.{named_by}
use Rattle.kx_virtual_mods.proofs.declared.add_declared.Given as goal

abbrev pub invariant-declarations : goal.invariant-declarations
invariant-declarations l = with_names l.names (flat_map named_by (drop l.declaration-index l.declarations)) ≡ with_names l.initial.names (flat_map named_by l.declarations)
