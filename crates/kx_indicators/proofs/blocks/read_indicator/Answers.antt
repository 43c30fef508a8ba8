use Rattle.std.proofs.Common.{◌++◌, ap, refl, ◌∙◌, position}
use Rattle.std.specs.List.{flat_map}
use Rattle.std.specs.Str.{bytes_eq}
use Rattle.kx_lex.specs.declared.fault.Fault.TheVariants.{Memory}
use Rattle.kx_merge.specs.Plain.{plain_form}
use Rattle.kx_merge.specs.declared.plain.Plain.{Plain}
use Rattle.kx_indicators.specs.Given.{IndicatorMapValues}
use Rattle.kx_indicators.specs.Giving.{values_cell}
use Rattle.kx_indicators.specs.Blocks.{own_faults, values_of}
use Rattle.kx_merge.proofs.Going.{blamed_behind, reported_or_out}
use Rattle.kx_merge.proofs.Offered.{given_offered}
use Rattle.kx_indicators.proofs.blocks.read_indicator.Goals as goal
use Rattle.kx_merge.specs.Faults.{name_faults}

pub returns-in_err-values-clause-faults : goal.returns-in_err-values-clause-faults
returns-in_err-values-clause-faults c =
    let names = c.args.context.now.modifiers.now.names in
    let front = name_faults c.args.whole.file c.args.whole.span c.args.declared.now.name.now in
    let fields = flat_map (own_faults c.args.whole.file names) c.args.declared.now.fields.now in
    reported_or_out c.from_residual.result (front ++ fields) c.in_err-values.field-0.0 c.from_residual.ensures.1 (blamed_behind Memory front fields c.in_err-values.field-0.0 c.in_err-values.ensures.faults.1)

pub returns-clause-records : goal.returns-clause-records
returns-clause-records c = λ mode.
    let plain_of : IndicatorMapValues → Plain IndicatorMapValues = λ v. record { values = v } in
    given_offered (plain_form values_cell) mode (λ v g. refl) (λ v. v.items) c.records_for.result c.number_of.result (position (bytes_eq c.args.declared.now.name.now.bytes) c.args.context.now.indicators.now) (plain_of c.in_ok-values.values) (plain_of (values_of c.args.context.now.modifiers.now.names c.args.defaults c.args.declared.now.fields.now))
    (c.number_of.ensures.value ∙ ap (λ bytes. position (bytes_eq bytes) c.args.context.now.indicators.now) c.as_slice-bytes.ensures) (ap plain_of c.in_ok-values.ensures.value) c.records_for.ensures.records
