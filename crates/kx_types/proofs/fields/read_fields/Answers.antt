use Rattle.std.specs.List.{flat_map}
use Rattle.kx_lex.specs.declared.fault.Fault.TheVariants.{Memory}
use Rattle.kx_types.specs.TypeFields.{field_faults}
use Rattle.kx_merge.proofs.Going.{blamed, of_element, reported_or_out}
use Rattle.kx_types.proofs.fields.read_fields.Goals as goal

pub returns-in_err-read_field-clause-faults : goal.returns-in_err-read_field-clause-faults
returns-in_err-read_field-clause-faults c =
    let faults = field_faults c.args.modifiers.now.names c.args.file in
    let all = flat_map faults c.args.fields.now in
    let e = c.in_err-read_field.field-0.0 in
    reported_or_out c.from_residual-in_err-read_field.result all e c.from_residual-in_err-read_field.ensures.1
    (blamed Memory all e (of_element faults c.args.fields.now c.fields.field-index c.field-item.result e c.fields-test.true c.field-item.is c.in_err-read_field.ensures.faults.1))
