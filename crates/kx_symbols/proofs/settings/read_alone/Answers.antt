use Rattle.std.proofs.Common.{◌∙◌, sym}
use Rattle.kx_symbols.proofs.Unsaid.{unblamed, unsaid}
use Rattle.kx_symbols.proofs.settings.read_alone.Goals as goal

pub returns-else-has_field-clause-cells : goal.returns-else-has_field-clause-cells
returns-else-has_field-clause-cells c = λ cell. c.none-else-has_field.ensures.cells cell ∙ sym (unsaid c.args.modifiers.now.names c.args.fields.now (sym c.has_field.ensures ∙ c.if-has_field.false) cell)

pub returns-else-has_field-clause-faults : goal.returns-else-has_field-clause-faults
returns-else-has_field-clause-faults c = (unblamed c.args.file c.args.modifiers.now.names c.args.fields.now (sym c.has_field.ensures ∙ c.if-has_field.false), tt)
