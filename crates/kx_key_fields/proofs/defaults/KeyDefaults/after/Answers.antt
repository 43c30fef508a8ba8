use Rattle.kx_lex.specs.declared.fault.Fault.TheVariants.{Memory}
use Rattle.kx_key_fields.specs.KeyFields.{default_faults}
use Rattle.kx_key_fields.proofs.Cellwise.{last_defaults}
use Rattle.kx_merge.proofs.Going.{blamed, reported_or_out}
use Rattle.kx_key_fields.proofs.defaults.KeyDefaults.after.Goals as goal

pub returns-in_err-given-clause-last : goal.returns-in_err-given-clause-last
returns-in_err-given-clause-last c = last_defaults c.args.names.now.names

pub returns-in_err-put-clause-last : goal.returns-in_err-put-clause-last
returns-in_err-put-clause-last c = last_defaults c.args.names.now.names

pub returns-clause-last : goal.returns-clause-last
returns-clause-last c = last_defaults c.args.names.now.names

pub returns-in_err-given-clause-faults : goal.returns-in_err-given-clause-faults
returns-in_err-given-clause-faults c =
    let faults = default_faults c.args.file c.args.names.now.names c.args.field.now in
    reported_or_out c.from_residual.result faults c.in_err-given.field-0.0 c.from_residual.ensures.1 (blamed Memory faults c.in_err-given.field-0.0 c.in_err-given.ensures.faults.1)
