use Rattle.std.proofs.Common.{◌++◌, ◌∙◌, ap}
use Rattle.std.specs.List.{flat_map}
use Rattle.kx_lex.specs.declared.fault.Fault.TheVariants.{Memory}
use Rattle.kx_modmaps.specs.Entries.{entry_faults, word_faults}
use Rattle.kx_merge.proofs.Going.{blamed, blamed_front, out_alone, reported_or_out}
use Rattle.kx_modmaps.proofs.record.read_map.Goals as goal

pub returns-in_err-mods-clause-faults : goal.returns-in_err-mods-clause-faults
returns-in_err-mods-clause-faults c =
    let words = word_faults c.args.whole.file c.args.context.now.modifiers.now.names c.args.map.now.word.now in
    let entries = flat_map (entry_faults c.args.whole.file c.args.whole.span) c.args.map.now.entries.now in
    reported_or_out c.from_residual.result (words ++ entries) c.in_err-mods.field-0.0 c.from_residual.ensures.1 (blamed_front Memory words entries c.in_err-mods.field-0.0 (blamed Memory words c.in_err-mods.field-0.0 c.in_err-mods.ensures.faults.1))

pub returns-clause-faults : goal.returns-clause-faults
returns-clause-faults c =
    let words = word_faults c.args.whole.file c.args.context.now.modifiers.now.names c.args.map.now.word.now in
    let entries = flat_map (entry_faults c.args.whole.file c.args.whole.span) c.args.map.now.entries.now in
    out_alone c.records_for.result (words ++ entries) (ap (λ fs. fs ++ entries) c.in_ok-mods.ensures.faults.0 ∙ c.in_ok-targets.ensures.faults.0) c.records_for.ensures.err
