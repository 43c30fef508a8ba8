use Rattle.std.proofs.Common.{map, take}
use Rattle.kx_mods.specs.Mods.{mask}
use Rattle.kx_merge.specs.Plain.{plain_form}
use Rattle.kx_modmaps.specs.Maps.{assigned_cell, map_offer}
use Rattle.kx_merge.proofs.Offered.{nothing_offered}
use Rattle.kx_modmaps.proofs.Given.{next_offered}
use Rattle.kx_modmaps.proofs.record.records_for.Goals as goal

pub targets-init : goal.targets-init
targets-init c = λ mode. nothing_offered (plain_form assigned_cell) mode c.new-records.result.items c.new-records.ensures.items

pub targets-preserved : goal.targets-preserved
targets-preserved c = λ mode.
    let ts = c.args.targets.now in
    let i = c.targets.target-index in
    next_offered _ mode c.add_record.new.records.items (mask c.args.mods) ts i c.targets-test.true
    (c.in_ok-add_record.ensures.added mode (map (map_offer mode (mask c.args.mods)) (take i ts)) (c.targets.invariant mode))
