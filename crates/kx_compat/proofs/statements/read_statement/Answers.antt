use Rattle.std.proofs.Common.{Ok, Option, Some, ap, subst, sym, ◌∷◌, ◌∙◌, Contains}
use Rattle.std.specs.Option.{option_map, option_map_or}
use Rattle.kx_lex.specs.declared.fault.Fault.TheVariants.{Memory}
use Rattle.kx_tree.specs.Sections.{word_span}
use Rattle.kx_compat.specs.Sections.{Interpreted, alone_faults, interpretation_faults, interpretation_in}
use Rattle.kx_symbols.specs.Keys.{field_in}
use Rattle.kx_merge.proofs.Going.{blamed, reported_or_out}
use Rattle.kx_compat.proofs.Offering.{said_offered}
use Rattle.kx_compat.proofs.statements.read_statement.Goals as goal

pub returns-in_ok-records-in-Some-clause-records : goal.returns-in_ok-records-in-Some-clause-records
returns-in_ok-records-in-Some-clause-records c = λ mode.
    said_offered (λ v. v.items) (Ok c.in_ok-records-in-Some.records) mode c.args.context.now.keysyms.now c.args.context.now.modifiers.now.names c.args.defaults (Some (c.in-Some.written.symbol.now, c.in-Some.written.predicate.now, c.in-Some.written.fields.now)) (interpretation_in c.args.placed.now.stated.now.statement)
    (sym (ap (option_map (λ i. (i.symbol.now, i.predicate.now, i.fields.now))) c.in-Some.is) ∙ c.interpretation_in.ensures) (c.in_ok-records-in-Some.ensures.records mode)

pub returns-in_err-next-in-None-clause-faults : goal.returns-in_err-next-in-None-clause-faults
returns-in_err-next-in-None-clause-faults c =
    let names = c.args.context.now.modifiers.now.names in
    let statement = c.args.placed.now.stated.now.statement in
    let others = alone_faults c.args.placed.now.place.file names statement (word_span c.args.placed.now.stated.now) (field_in statement) in
    let faults = λ (i : Option Interpreted). option_map_or (interpretation_faults c.args.placed.now.place.file names) i others in
    let e = c.in_err-next-in-None.field-0.0 in
    let none = sym (ap (option_map (λ i. (i.symbol.now, i.predicate.now, i.fields.now))) c.in-None.is) ∙ c.interpretation_in.ensures in
    reported_or_out c.from_residual-in_err-next-in-None.result (faults (interpretation_in statement)) e c.from_residual-in_err-next-in-None.ensures.1
    (subst (λ i. Contains (Memory ∷ faults i) e) none (blamed Memory others e c.in_err-next-in-None.ensures.faults.1))
