use Rattle.std.proofs.Common.{Ok, Some, ap, subst, sym, ◌∷◌, ◌∙◌, Contains}
use Rattle.std.specs.Option.{option_map}
use Rattle.kx_lex.specs.declared.fault.Fault.TheVariants.{Memory}
use Rattle.kx_indicators.specs.Blocks.{default_faults, default_in, indicator_in, said_faults}
use Rattle.kx_merge.proofs.Going.{blamed, reported_or_out}
use Rattle.kx_indicators.proofs.Offering.{said_offered}
use Rattle.kx_indicators.proofs.blocks.read_statement.Goals as goal

pub returns-in_ok-records-in-Some-clause-records : goal.returns-in_ok-records-in-Some-clause-records
returns-in_ok-records-in-Some-clause-records c = λ mode.
    said_offered (λ v. v.items) (Ok c.in_ok-records-in-Some.records) mode c.args.context.now.indicators.now c.args.context.now.modifiers.now.names c.args.defaults (Some (c.in-Some.declared.name.now, c.in-Some.declared.fields.now)) (indicator_in c.args.placed.now.stated.now.statement)
    (sym (ap (option_map (λ i. (i.name.now, i.fields.now))) c.in-Some.is) ∙ c.indicator_in.ensures) (c.in_ok-records-in-Some.ensures.records mode)

pub returns-in_err-next-in-None-clause-faults : goal.returns-in_err-next-in-None-clause-faults
returns-in_err-next-in-None-clause-faults c =
    let names = c.args.context.now.modifiers.now.names in
    let statement = c.args.placed.now.stated.now.statement in
    let e = c.in_err-next-in-None.field-0.0 in
    let none = sym (ap (option_map (λ i. (i.name.now, i.fields.now))) c.in-None.is) ∙ c.indicator_in.ensures in
    reported_or_out c.from_residual-in_err-next-in-None.result (said_faults c.args.placed.now.place.file names statement c.args.placed.now.stated.now.span (indicator_in statement)) e c.from_residual-in_err-next-in-None.ensures.1
    (subst (λ i. Contains (Memory ∷ said_faults c.args.placed.now.place.file names statement c.args.placed.now.stated.now.span i) e) none (blamed Memory (default_faults c.args.placed.now.place.file names (default_in statement)) e c.in_err-next-in-None.ensures.faults.1))
