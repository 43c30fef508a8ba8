use Rattle.std.proofs.Common.{◌+◌, ◌∙◌, ap, slice_set}
use Rattle.kx_key_lists.specs.Lists.{widened_to}
use Rattle.kx_key_lists.proofs.LaterLists.{put_levels, put_widths, was_at}
use Rattle.kx_key_lists.proofs.merging.merge_group.Goals as goal

pub returns-clause-levels : goal.returns-clause-levels
returns-clause-levels t c =
    put_levels c.args.mode c.args.lists.now.items c.args.group c.take-old.result c.args.later c.in_ok-lists.field-0 (slice_set (slice_set c.widen.new.lists.items c.args.group c.take-old.new.self) c.args.group c.in_ok-lists.field-0)
    (ap (λ ws. slice_set (slice_set ws c.args.group c.take-old.new.self) c.args.group c.in_ok-lists.field-0) c.in_ok-widen.ensures ∙ ap (λ o. slice_set (slice_set (widened_to (c.args.group + 1) c.args.lists.now.items) c.args.group o) c.args.group c.in_ok-lists.field-0) c.take-old.ensures.after)
    (was_at c.args.lists.now.items c.widen.new.lists.items c.args.group c.take-old.result _ c.in_ok-widen.ensures (c.take-old.ensures.value ∙ c.index_mut.ensures.value)) c.in_ok-lists.ensures.levels

pub returns-clause-widths : goal.returns-clause-widths
returns-clause-widths t c =
    put_widths c.args.lists.now.items c.args.group c.take-old.result c.args.later c.in_ok-lists.field-0 (slice_set (slice_set c.widen.new.lists.items c.args.group c.take-old.new.self) c.args.group c.in_ok-lists.field-0)
    (ap (λ ws. slice_set (slice_set ws c.args.group c.take-old.new.self) c.args.group c.in_ok-lists.field-0) c.in_ok-widen.ensures ∙ ap (λ o. slice_set (slice_set (widened_to (c.args.group + 1) c.args.lists.now.items) c.args.group o) c.args.group c.in_ok-lists.field-0) c.take-old.ensures.after)
    (was_at c.args.lists.now.items c.widen.new.lists.items c.args.group c.take-old.result _ c.in_ok-widen.ensures (c.take-old.ensures.value ∙ c.index_mut.ensures.value)) c.in_ok-lists.ensures.long
