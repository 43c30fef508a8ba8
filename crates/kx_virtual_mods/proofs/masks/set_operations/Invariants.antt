use Rattle.std.proofs.Common.{◌≡◌, drop, fold}
use Rattle.std.specs.List.{flat_map}
use Rattle.kx_virtual_mods.specs.Masks.{operated, operation_faults, word_faults}
use Rattle.kx_virtual_mods.proofs.masks.set_operations.Given as goal

abbrev pub invariant-operations : goal.invariant-operations
invariant-operations l = (fold (operated l.names) l.fn.before l.operations ≡ fold (operated l.names) l.set (drop l.operation-index l.operations)) × (flat_map (operation_faults l.file (word_faults l.file l.names)) l.operations ≡ flat_map (operation_faults l.file (word_faults l.file l.names)) (drop l.operation-index l.operations))
