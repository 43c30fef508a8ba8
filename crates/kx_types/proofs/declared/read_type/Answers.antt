use Rattle.std.proofs.Common.{ap, ◌∙◌}
use Rattle.kx_types.specs.KeyTypes.{definition_of}
use Rattle.kx_types.specs.TypeFields.{sayings_of}
use Rattle.kx_types.proofs.declared.read_type.Goals as goal

pub returns-clause-records : goal.returns-clause-records
returns-clause-records c = λ mode.
    c.one_given.ensures.records mode c.args.name.now.bytes (definition_of (sayings_of c.args.modifiers.now.names c.args.fields.now))
    (c.of-2.ensures ∙ c.as_slice-bytes.ensures) (c.in_ok-definition.ensures ∙ ap definition_of (c.as_slice.ensures.value ∙ c.in_ok-said.ensures.value))
