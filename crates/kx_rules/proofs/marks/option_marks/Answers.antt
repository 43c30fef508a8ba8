use Rattle.std.proofs.Common.{ap, refl, ◌∙◌}
use Rattle.kx_rules.specs.Marks.{with_groups}
use Rattle.kx_rules.proofs.Marking.{options_left}
use Rattle.kx_rules.proofs.marks.option_marks.Goals as goal

pub returns : goal.returns
returns c =
    options_left c.args.groups.now c.args.uses.now c.args.names.now.options c.args.groups.now c.in_ok-marks.marks.items c.in_ok-flags.flags.items c.mark_uses.new.marks.items c.mark_uses-2.new.marks.items c.mark_groups.new.marks.items
    c.requires refl c.in_ok-marks.ensures c.in_ok-flags.ensures c.mark_uses.ensures c.mark_uses-2.ensures
    (c.mark_groups.ensures ∙ ap (λ flags. with_groups c.args.groups.now 0 flags c.mark_uses.new.marks.items) c.as_slice.ensures.value)
