use Rattle.kx_modmaps.specs.declared.record.Assigned.{Assigned}
use Rattle.kx_modmaps.proofs.Joining.{joined_strong, joined_weak}
use Rattle.kx_modmaps.proofs.record.AssignedPlainRecordContext.merged_with.Goals as goal

pub returns-in-Augment : goal.returns-in-Augment
returns-in-Augment c =
    let got : Assigned = record { present = c.with.result; only = c.or.result } in
    joined_weak c.args.self c.args.other got c.args.mode c.with.ensures c.in-Augment.is c.or.ensures

pub returns-in-Override : goal.returns-in-Override
returns-in-Override c =
    let got : Assigned = record { present = c.with-in-Override.result; only = c.or-in-Override.result } in
    joined_strong c.args.self c.args.other got c.args.mode c.with-in-Override.ensures c.in-Override.is c.or-in-Override.ensures
