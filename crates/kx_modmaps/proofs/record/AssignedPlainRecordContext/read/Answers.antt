use Rattle.std.proofs.Common.{◌∙◌, ap, subst, sym}
use Rattle.std.specs.Option.{option_map}
use Rattle.kx_modmaps.specs.Maps.{AreAssigned, map_offers}
use Rattle.kx_modmaps.proofs.record.AssignedPlainRecordContext.read.Goals as goal

pub returns-in_default-clause-records : goal.returns-in_default-clause-records
returns-in_default-clause-records c =
    let context = c.args.context.now in
    let mode = c.args.placed.now.stated.now.mode in
    subst (λ map. AreAssigned mode c.no_records.result.items (map_offers context.codes.now context.keysyms.now mode map)) (sym (ap (option_map (λ m. (m.word.now, m.entries.now))) c.in_default.is) ∙ c.map_in.ensures) (c.no_records.ensures mode)

pub returns-clause-records : goal.returns-clause-records
returns-clause-records c =
    let context = c.args.context.now in
    let mode = c.args.placed.now.stated.now.mode in
    subst (λ map. AreAssigned mode c.in_ok-records.records.items (map_offers context.codes.now context.keysyms.now mode map)) (sym (ap (option_map (λ m. (m.word.now, m.entries.now))) c.in-Some.is) ∙ c.map_in.ensures) (c.in_ok-records.ensures.records mode)
