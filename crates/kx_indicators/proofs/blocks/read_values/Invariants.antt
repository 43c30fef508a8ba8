use Rattle.std.proofs.Common.{◌≡◌, drop}
use Rattle.std.specs.List.{flat_map}
use Rattle.kx_indicators.specs.Blocks.{own_faults, own_value}
use Rattle.kx_indicators.specs.Giving.{last_values}
use Rattle.kx_indicators.proofs.blocks.read_values.Given as goal

abbrev pub invariant-fields : goal.invariant-fields
invariant-fields l = record {
  value : last_values (own_value l.names.names) l.fn.defaults l.fields ≡ last_values (own_value l.names.names) l.values (drop l.field-index l.fields);
  faultless : flat_map (own_faults l.file l.names.names) l.fields ≡ flat_map (own_faults l.file l.names.names) (drop l.field-index l.fields);
}
