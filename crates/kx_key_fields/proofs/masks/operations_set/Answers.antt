use Rattle.std.proofs.Common.{◌∙◌}
use Rattle.kx_key_fields.proofs.Going.{no_ok}
use Rattle.kx_key_fields.proofs.Virtual.{set_ends}
use Rattle.kx_key_fields.proofs.masks.operations_set.Goals as goal

pub returns-in_err-other-clause-value : goal.returns-in_err-other-clause-value
returns-in_err-other-clause-value c =
    no_ok c.from_residual.result c.in_err-other.field-0.0 c.from_residual.ensures.1
    ∙ set_ends c.args.names.now.names c.args.before c.operations.set c.args.operations.now c.operations.operation-index c.operation-item.result c.operations-test.true c.operation-item.is c.operations.invariant.value c.in_err-other.ensures.value
