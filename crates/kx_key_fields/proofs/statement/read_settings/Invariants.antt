use Rattle.std.proofs.Common.{◌≡◌, drop}
use Rattle.kx_key_fields.specs.KeyFields.{setting_faults}
use Rattle.kx_key_fields.proofs.Cellwise.{IsLeft}
use Rattle.kx_key_fields.proofs.statement.read_settings.Given as goal

abbrev pub invariant-fields : goal.invariant-fields
invariant-fields l = record {
  cells : IsLeft l.names.names l.defaults l.fields l.field-index l.settings;
  faultless : setting_faults l.file l.names.names l.fields ≡ setting_faults l.file l.names.names (drop l.field-index l.fields);
}
