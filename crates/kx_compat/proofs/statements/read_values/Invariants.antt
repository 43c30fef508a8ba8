use Rattle.std.proofs.Common.{◌≡◌, drop}
use Rattle.std.specs.List.{flat_map}
use Rattle.kx_compat.specs.Giving.{last_values}
use Rattle.kx_compat.specs.Sections.{own_faults, own_value}
use Rattle.kx_compat.proofs.statements.read_values.Given as goal

abbrev pub invariant-fields : goal.invariant-fields
invariant-fields l = record {
  value : last_values (own_value l.context.modifiers.now.names l.defaults) l.defaults.values l.fields ≡ last_values (own_value l.context.modifiers.now.names l.defaults) l.values (drop l.field-index l.fields);
  faultless : flat_map (own_faults l.context.file l.context.modifiers.now.names) l.fields ≡ flat_map (own_faults l.context.file l.context.modifiers.now.names) (drop l.field-index l.fields);
}
