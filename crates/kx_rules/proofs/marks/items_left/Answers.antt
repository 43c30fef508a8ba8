use Rattle.std.proofs.Common.{ℕ, List, ap, map, ◌∙◌}
use Rattle.kx_rules.specs.Marks.{unmarked}
use Rattle.kx_rules.proofs.Marking.{items_left}
use Rattle.kx_rules.proofs.marks.items_left.Goals as goal

pub returns : goal.returns
returns c =
    c.in_ok-places.ensures
    ∙ ap (λ ms. map (λ (e : ℕ × List ℕ). e.0) (unmarked ms c.args.words.now)) c.as_slice.ensures.value
    ∙ items_left c.args.groups.now c.args.uses.now c.args.field c.requires c.args.words.now c.in_ok-marks.marks.items c.mark_uses.new.marks.items c.in_ok-marks.ensures c.mark_uses.ensures
