use Rattle.std.proofs.Common.{◌++◌, Contains, subst}
use Rattle.kx_key_lists.specs.Places.{place_faults}
use Rattle.kx_symbols.specs.KeyFaults.{actions_faults}
use Rattle.kx_symbols.proofs.Statements.{front_blames}
use Rattle.kx_merge.proofs.Going.{reported_or_out}
use Rattle.kx_symbols.proofs.fields.add_actions.Goals as goal

pub returns-in_err-group-clause-faults : goal.returns-in_err-group-clause-faults
returns-in_err-group-clause-faults c =
    let front = place_faults c.args.whole.file c.args.lists.now.items c.args.index.now c.args.list.now in
    let back = actions_faults c.args.whole.file c.args.known.now.modifiers c.args.list.now in
    reported_or_out c.from_residual.result (front ++ back) c.in_err-group.field-0.0 c.from_residual.ensures.1
    (front_blames front back c.in_err-group.field-0.0 (subst (λ ls. Contains (place_faults c.args.whole.file ls c.args.index.now c.args.list.now) c.in_err-group.field-0.0) c.as_slice.ensures.value c.in_err-group.ensures.faults.1))
