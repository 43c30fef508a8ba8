use Rattle.kx_symbols.specs.KeyFaults.{fields_faults}
use Rattle.kx_symbols.specs.Lists.{no_lists}
use Rattle.kx_symbols.proofs.Statements.{field_blames}
use Rattle.kx_merge.proofs.Going.{reported_or_out}
use Rattle.kx_symbols.proofs.fields.read_lists.Goals as goal

pub returns-in_err-add_field-clause-faults : goal.returns-in_err-add_field-clause-faults
returns-in_err-add_field-clause-faults c =
    reported_or_out c.from_residual-in_err-add_field.result (fields_faults c.args.whole.file c.args.known.now c.args.whole.span no_lists c.args.fields.now) c.in_err-add_field.field-0.0 c.from_residual-in_err-add_field.ensures.1
    (field_blames c.args.whole.file c.args.known.now c.args.whole.span c.args.fields.now c.fields.lists c.fields.field-index c.field-item.result c.in_err-add_field.field-0.0 c.fields-test.true c.field-item.is c.fields.invariant.1 c.in_err-add_field.ensures.faults.1)
