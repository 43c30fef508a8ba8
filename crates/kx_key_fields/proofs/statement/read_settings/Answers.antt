use Rattle.std.proofs.Common.{refl}
use Rattle.kx_lex.specs.declared.fault.Fault.TheVariants.{Memory}
use Rattle.kx_key_fields.specs.KeyFields.{key_field_faults, key_given, setting_faults}
use Rattle.kx_key_fields.proofs.Cellwise.{settings_go}
use Rattle.kx_merge.proofs.Going.{any_blames, none_goes, reported_or_out}
use Rattle.kx_key_fields.proofs.statement.read_settings.Goals as goal

pub returns-in_err-take_field-clause-faults : goal.returns-in_err-take_field-clause-faults
returns-in_err-take_field-clause-faults c =
    let faults = key_field_faults c.args.file c.args.names.now.names in
    let e = c.in_err-take_field.field-0.0 in
    reported_or_out c.from_residual-in_err-take_field.result (setting_faults c.args.file c.args.names.now.names c.args.fields.now) e c.from_residual-in_err-take_field.ensures.1
    (any_blames faults c.args.fields.now c.fields.field-index c.field-item.result Memory e c.fields-test.true c.field-item.is c.fields.invariant.faultless c.in_err-take_field.ensures.faults.1)

pub fields-preserved : goal.fields-preserved
fields-preserved c =
    let names = c.args.names.now.names in
    let field = c.field-item.result in record {
      cells = settings_go names c.args.defaults.now c.args.fields.now c.fields.field-index c.fields.settings field (key_given names field) c.take_field.new.settings c.fields-test.true c.field-item.is refl c.in_ok-take_field.ensures.taken c.fields.invariant.cells;
      faultless = none_goes (key_field_faults c.args.file names) c.args.fields.now c.fields.field-index field c.fields-test.true c.field-item.is c.in_ok-take_field.ensures.faults.0 c.fields.invariant.faultless;
    }
