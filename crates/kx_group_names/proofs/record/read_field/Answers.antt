use Rattle.kx_lex.specs.declared.fault.Fault.TheVariants.{Memory}
use Rattle.kx_group_names.specs.Fields.{field_faults}
use Rattle.kx_merge.proofs.Going.{blamed, reported_or_out}
use Rattle.kx_group_names.proofs.record.read_field.Goals as goal

pub returns-in_err-group-clause-faults : goal.returns-in_err-group-clause-faults
returns-in_err-group-clause-faults c =
    let faults = field_faults c.args.file c.args.whole c.args.field.now in
    reported_or_out c.from_residual.result faults c.in_err-group.field-0.0 c.from_residual.ensures.1 (blamed Memory faults c.in_err-group.field-0.0 c.in_err-group.ensures.faults.1)
