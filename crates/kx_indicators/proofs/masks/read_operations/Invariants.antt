use Rattle.std.proofs.Common.{◌≡◌, ◌<◌, ◌^◌, drop, fold}
use Rattle.std.specs.List.{flat_map}
use Rattle.kx_indicators.specs.IndicatorMapMasks.{operated, operation_faults, width}
use Rattle.kx_indicators.proofs.masks.read_operations.Given as goal

abbrev pub invariant-operations : goal.invariant-operations
invariant-operations l = record {
  value : fold (operated l.kind) l.fn.before l.operations ≡ fold (operated l.kind) l.mask (drop l.operation-index l.operations);
  within : l.mask < 2 ^ width l.kind;
  faultless : flat_map (operation_faults l.file l.kind) l.operations ≡ flat_map (operation_faults l.file l.kind) (drop l.operation-index l.operations);
}
