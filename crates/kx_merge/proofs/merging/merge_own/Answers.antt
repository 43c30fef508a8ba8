use Rattle.std.proofs.Common.{[], ◌++◌, ap, cond, ◌∙◌}
use Rattle.std.specs.Map.{keys_of}
use Rattle.kx_merge.specs.Gatherings.{placed_offers}
use Rattle.kx_merge.specs.Offers.{is_replace}
use Rattle.kx_merge.proofs.Covering.{takes_back}
use Rattle.kx_merge.proofs.merging.merge_own.Goals as goal

pub returns-clause-back : goal.returns-clause-back
returns-clause-back g c =
    let old = c.args.walk.now.replaced.keys.items in
    let new = c.note_replaced.new.replaced.items in
    let mode = c.args.placed.now.stated.now.mode in
    let given = c.in_ok-given.given.items in
    let noted =
    c.in_ok-note_replaced.ensures.noted ∙ ap (λ rs. old ++ cond (is_replace mode) (keys_of rs) []) c.as_slice.ensures.value in
    takes_back g.R.Key.PartialEq.eq mode given (placed_offers (g.R.Fields.rules c.args.context.now) c.args.defaults c.args.placed.now) old new c.in_ok-given.ensures.records noted
