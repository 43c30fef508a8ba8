use Rattle.std.specs.List.{flat_map}
use Rattle.kx_virtual_mods.specs.Masks.{operation_faults, real_word_faults}
use Rattle.kx_merge.proofs.Going.{none_blames, reported}
use Rattle.kx_virtual_mods.proofs.masks.real_operations.Goals as goal

pub returns-in_err-other-clause-faults : goal.returns-in_err-other-clause-faults
returns-in_err-other-clause-faults c =
    let faults = operation_faults c.args.file (real_word_faults c.args.file c.args.names.now) in
    reported c.from_residual.result (flat_map faults c.args.operations.now) c.in_err-other.field-0.0 c.from_residual.ensures.1
    (none_blames faults c.args.operations.now c.operations.operation-index c.operation-item.result c.in_err-other.field-0.0 c.operations-test.true c.operation-item.is c.operations.invariant.1 c.in_err-other.ensures.faults.1)
