use Rattle.std.proofs.Common.{ap, sym, ◌∙◌}
use Rattle.std.specs.Option.{option_map}
use Rattle.kx_types.proofs.Given.{said_given}
use Rattle.kx_types.specs.TypeFaults.{type_in}
use Rattle.kx_types.proofs.declared.read_statement.Goals as goal

pub returns-in-Some-clause-records : goal.returns-in-Some-clause-records
returns-in-Some-clause-records c = λ mode.
    said_given (λ v. v.items) c.read_type.result mode c.args.modifiers.now.names c.in-Some.name.now c.in-Some.fields.now c.as_slice.result.now (type_in c.args.stated.now.statement)
    (sym (ap (option_map (λ t. (t.0.now, t.1.now))) c.in-Some.is) ∙ c.type_in.ensures) c.as_slice.ensures (c.read_type.ensures.records mode)
