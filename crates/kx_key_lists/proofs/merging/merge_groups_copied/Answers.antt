use Rattle.std.proofs.Common.{refl}
use Rattle.kx_key_lists.proofs.LaterLists.{lists_go, lists_levels, lists_widths}
use Rattle.kx_key_lists.proofs.merging.merge_groups_copied.Goals as goal
use Rattle.kx_key_lists.proofs.Replaced.{taken_at}

pub lists-preserved : goal.lists-preserved
lists-preserved t c =
    let later = c.args.later.now in
    lists_go c.args.mode c.args.from c.args.lists.now.items later c.lists.lists.items later c.lists.place c.index-later-place.result c.merge_group_copied.new.lists.items later
    c.lists.invariant (taken_at later c.lists.place c.index-later-place.result _ c.lists-test.true c.index-later-place.is) refl (λ k behind. refl) c.in_ok-merge_group_copied.ensures.levels c.in_ok-merge_group_copied.ensures.widths

pub returns-clause-levels : goal.returns-clause-levels
returns-clause-levels t c = lists_levels c.args.mode c.args.from c.args.lists.now.items c.args.later.now c.lists.lists.items c.args.later.now c.lists.place c.requires.mode c.lists.invariant c.lists-test.false

pub returns-clause-widths : goal.returns-clause-widths
returns-clause-widths t c = lists_widths c.args.mode c.args.from c.args.lists.now.items c.args.later.now c.lists.lists.items c.args.later.now c.lists.place c.lists.invariant c.lists-test.false
