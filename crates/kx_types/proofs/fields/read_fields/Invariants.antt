use Rattle.std.proofs.Common.{◌≡◌, [], All, take}
use Rattle.std.specs.List.{flat_map}
use Rattle.kx_types.specs.Lawful.{NamesLevel}
use Rattle.kx_types.specs.TypeFields.{field_faults, sayings_of}
use Rattle.kx_types.proofs.fields.read_fields.Given as goal

abbrev pub invariant-fields : goal.invariant-fields
invariant-fields l = record {
  value : l.said.items ≡ sayings_of l.modifiers.names (take l.field-index l.fields);
  levels : All NamesLevel l.said.items;
  faultless : flat_map (field_faults l.modifiers.names l.file) (take l.field-index l.fields) ≡ [];
}
