use Rattle.std.specs.List.{flat_map}
use Rattle.kx_lex.specs.declared.fault.Fault.TheVariants.{Memory}
use Rattle.kx_modmaps.specs.Entries.{entry_faults}
use Rattle.kx_merge.proofs.Going.{any_blames, reported_or_out}
use Rattle.kx_modmaps.proofs.entries.read_targets.Goals as goal

pub returns-in_err-target-clause-faults : goal.returns-in_err-target-clause-faults
returns-in_err-target-clause-faults c =
    let faults = entry_faults c.args.whole.file c.args.whole.span in
    reported_or_out c.from_residual.result (flat_map faults c.args.entries.now) c.in_err-target.field-0.0 c.from_residual.ensures.1
    (any_blames faults c.args.entries.now c.entries.entry-index c.entry-item.result Memory c.in_err-target.field-0.0 c.entries-test.true c.entry-item.is c.entries.invariant.1 c.in_err-target.ensures.faults.1)
