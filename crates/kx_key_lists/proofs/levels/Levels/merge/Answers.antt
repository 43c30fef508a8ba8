use Rattle.std.proofs.Common.{◌∙◌, length, slice_set, ap, arith}
use Rattle.std.proofs.lemmas.List.{length-set}
use Rattle.kx_key_lists.proofs.LaterLists.{levels_go, levels_end}
use Rattle.kx_key_lists.proofs.levels.Levels.merge.Goals as goal
use Rattle.kx_key_lists.proofs.Replaced.{taken_at, kept_at}

pub levels-preserved : goal.levels-preserved
levels-preserved t c =
    let test = c.levels-test.true in
    let size = c.len-place-end.ensures in
    let view = ap length c.other.view_is in
    let still = c.levels.invariant.sized in
    levels_go c.args.mode c.args.self.now c.args.other c.levels.self c.levels.later.items c.levels.place c.take-level.result c.merge_level.new.self (slice_set c.levels.later.items c.levels.place c.take-level.new.self)
    c.requires c.levels.invariant (omega (arith, test, size, view)) (taken_at c.levels.later.items c.levels.place c.take-level.result _ (omega (arith, test, size, view, still)) (c.take-level.ensures.value ∙ c.index_mut.ensures.value)) (length-set c.levels.later.items c.levels.place c.take-level.new.self)
    (λ k behind. kept_at c.levels.later.items c.levels.place c.take-level.new.self k behind) c.in_ok-merge_level.ensures.levels c.in_ok-merge_level.ensures.long

pub returns-clause-levels : goal.returns-clause-levels
returns-clause-levels t c =
    let test = c.levels-test.false in
    let size = c.len-place-end.ensures in
    let view = ap length c.other.view_is in
    levels_end c.args.mode c.args.self.now c.args.other c.levels.self c.levels.later.items c.levels.place c.requires c.levels.invariant (omega (arith, test, size, view))
