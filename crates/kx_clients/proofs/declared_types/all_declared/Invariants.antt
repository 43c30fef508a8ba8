use Rattle.std.proofs.Common.{◌≡◌, take}
use Rattle.std.specs.List.{flat_map}
use Rattle.kx_types.specs.Types.{names_in, type_named}
use Rattle.kx_virtual_mods.specs.Sets.{real_of}
use Rattle.kx_virtual_mods.specs.Standing.{stands_for}
use Rattle.kx_clients.specs.DeclaredTypes.{defined_type}
use Rattle.kx_clients.proofs.declared_types.all_declared.Given as goal

abbrev pub invariant-places : goal.invariant-places
invariant-places l = l.declared.items ≡ flat_map (defined_type (real_of (stands_for l.stands)) (type_named l.types)) (take l.place (names_in l.types))
