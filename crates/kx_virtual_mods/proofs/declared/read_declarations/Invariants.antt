use Rattle.std.proofs.Common.{◌≡◌, ◌++◌, drop}
use Rattle.std.specs.List.{flat_map}
use Rattle.kx_virtual_mods.specs.Declarations.{declaration_faults, given_in}
use Rattle.kx_virtual_mods.proofs.declared.read_declarations.Given as goal

abbrev pub invariant-declarations : goal.invariant-declarations
invariant-declarations l = (given_in l.names l.declarations ≡ l.given.items ++ given_in l.names (drop l.declaration-index l.declarations)) × (flat_map (declaration_faults l.file l.names) l.declarations ≡ flat_map (declaration_faults l.file l.names) (drop l.declaration-index l.declarations))
