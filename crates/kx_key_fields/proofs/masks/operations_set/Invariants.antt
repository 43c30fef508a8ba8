use Rattle.std.proofs.Common.{◌≡◌, Some, drop, fold}
use Rattle.std.specs.List.{flat_map}
use Rattle.kx_key_fields.specs.VirtualMasks.{virtual_operation_faults, with_term}
use Rattle.kx_key_fields.proofs.masks.operations_set.Given as goal

abbrev pub invariant-operations : goal.invariant-operations
invariant-operations l = record {
  value : fold (with_term l.names.names) (Some l.fn.before) l.operations ≡ fold (with_term l.names.names) (Some l.set) (drop l.operation-index l.operations);
  faultless : flat_map (virtual_operation_faults l.names.names l.file) l.operations ≡ flat_map (virtual_operation_faults l.names.names l.file) (drop l.operation-index l.operations);
}
