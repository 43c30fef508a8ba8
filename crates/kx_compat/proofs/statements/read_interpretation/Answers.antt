use Rattle.std.proofs.Common.{◌++◌, ap, refl}
use Rattle.std.specs.List.{flat_map}
use Rattle.kx_lex.specs.declared.fault.Fault.TheVariants.{Memory}
use Rattle.kx_symbols.specs.KeyFaults.{symbol_faults}
use Rattle.kx_compat.specs.Sections.{own_faults, values_of}
use Rattle.kx_merge.specs.Plain.{plain_form}
use Rattle.kx_merge.specs.declared.plain.Plain.{Plain}
use Rattle.kx_compat.specs.Given.{FieldValues}
use Rattle.kx_compat.specs.Giving.{values_cell}
use Rattle.kx_compat.specs.Matches.{predicate_faults, match_of}
use Rattle.kx_merge.proofs.Going.{blamed_behind, blamed_front, reported_or_out}
use Rattle.kx_merge.proofs.Offered.{given_offered}
use Rattle.kx_compat.proofs.statements.read_interpretation.Goals as goal

pub returns-in_err-interpretation_match-clause-faults : goal.returns-in_err-interpretation_match-clause-faults
returns-in_err-interpretation_match-clause-faults c =
    let names = c.args.context.now.modifiers.now.names in
    let front = symbol_faults c.args.context.now.file c.args.written.now.symbol.now ++ predicate_faults c.args.context.now.file names c.args.written.now.predicate.now in
    let fields = flat_map (own_faults c.args.context.now.file names) c.args.written.now.fields.now in
    reported_or_out c.from_residual.result (front ++ fields) c.in_err-interpretation_match.field-0.0 c.from_residual.ensures.1 (blamed_front Memory front fields c.in_err-interpretation_match.field-0.0 c.in_err-interpretation_match.ensures.faults.1)

pub returns-in_err-values-clause-faults : goal.returns-in_err-values-clause-faults
returns-in_err-values-clause-faults c =
    let names = c.args.context.now.modifiers.now.names in
    let front = symbol_faults c.args.context.now.file c.args.written.now.symbol.now ++ predicate_faults c.args.context.now.file names c.args.written.now.predicate.now in
    let fields = flat_map (own_faults c.args.context.now.file names) c.args.written.now.fields.now in
    reported_or_out c.from_residual-in_err-values.result (front ++ fields) c.in_err-values.field-0.0 c.from_residual-in_err-values.ensures.1 (blamed_behind Memory front fields c.in_err-values.field-0.0 c.in_err-values.ensures.faults.1)

pub returns-clause-records : goal.returns-clause-records
returns-clause-records c = λ mode.
    let plain_of : FieldValues → Plain FieldValues = λ v. record { values = v } in
    given_offered (plain_form values_cell) mode (λ v g. refl) (λ v. v.items) c.records_for.result c.in_ok-interpretation_match.interpretation_match (match_of c.args.context.now.keysyms.now c.args.written.now.symbol.now c.args.written.now.predicate.now) (plain_of c.in_ok-values.values) (plain_of (values_of c.args.context.now.modifiers.now.names c.args.defaults.now c.args.written.now.fields.now))
    c.in_ok-interpretation_match.ensures.value (ap plain_of c.in_ok-values.ensures.value) c.records_for.ensures.records
