use Rattle.std.proofs.Common.{◌∙◌, slice_set, arith}
use Rattle.std.proofs.lemmas.List.{length-set}
use Rattle.kx_key_lists.proofs.LaterLists.{lists_go, lists_levels, lists_widths}
use Rattle.kx_key_lists.proofs.merging.merge_groups.Goals as goal
use Rattle.kx_key_lists.proofs.Replaced.{taken_at, kept_at}

pub lists-preserved : goal.lists-preserved
lists-preserved t c =
    let test = c.lists-test.true in
    let size = c.len-place-end.ensures in
    let still = c.lists.invariant.sized in
    lists_go c.args.mode c.args.from c.args.lists.now.items c.args.later.items c.lists.lists.items c.lists.later.items c.lists.place c.take-list.result c.merge_group.new.lists.items (slice_set c.lists.later.items c.lists.place c.take-list.new.self)
    c.lists.invariant (taken_at c.lists.later.items c.lists.place c.take-list.result _ (omega (arith, test, size, still)) (c.take-list.ensures.value ∙ c.index_mut.ensures.value)) (length-set c.lists.later.items c.lists.place c.take-list.new.self)
    (λ k behind. kept_at c.lists.later.items c.lists.place c.take-list.new.self k behind) c.in_ok-merge_group.ensures.levels c.in_ok-merge_group.ensures.widths

pub returns-clause-levels : goal.returns-clause-levels
returns-clause-levels t c =
    let test = c.lists-test.false in
    let size = c.len-place-end.ensures in
    lists_levels c.args.mode c.args.from c.args.lists.now.items c.args.later.items c.lists.lists.items c.lists.later.items c.lists.place c.requires.mode c.lists.invariant (omega (arith, test, size))

pub returns-clause-widths : goal.returns-clause-widths
returns-clause-widths t c =
    let test = c.lists-test.false in
    let size = c.len-place-end.ensures in
    lists_widths c.args.mode c.args.from c.args.lists.now.items c.args.later.items c.lists.lists.items c.lists.later.items c.lists.place c.lists.invariant (omega (arith, test, size))
