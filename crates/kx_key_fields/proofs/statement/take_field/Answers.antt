use Rattle.std.proofs.Common.{Contains, sym, subst}
use Rattle.kx_lex.specs.declared.fault.Fault.TheVariants.{Memory}
use Rattle.kx_key_fields.specs.KeyFields.{key_field_faults, own_faults}
use Rattle.kx_merge.proofs.Going.{blamed, reported_or_out}
use Rattle.kx_key_fields.proofs.statement.take_field.Goals as goal

pub returns-in_err-given-in-Field-clause-faults : goal.returns-in_err-given-in-Field-clause-faults
returns-in_err-given-in-Field-clause-faults c =
    let file = c.args.file in
    let names = c.args.names.now.names in
    let e = c.in_err-given-in-Field.field-0.0 in
    let has : Contains (own_faults file names c.in-Field.field) e = subst (λ f. Contains (own_faults file names f) e) c.get.ensures c.in_err-given-in-Field.ensures.faults.1 in
    let all : Contains (key_field_faults file names c.args.field.now) e = subst (λ f. Contains (key_field_faults file names f) e) (sym c.in-Field.is) has in
    reported_or_out c.from_residual.result (key_field_faults file names c.args.field.now) e c.from_residual.ensures.1 (blamed Memory (key_field_faults file names c.args.field.now) e all)
