use Rattle.std.proofs.Common.{◌∙◌, ap, length, refl, arith, get_or}
use Rattle.kx_key_lists.proofs.LaterLists.{levels_go, levels_end}
use Rattle.kx_key_lists.proofs.levels.Levels.merge_copied.Goals as goal
use Rattle.kx_key_lists.proofs.Replaced.{taken_at}

pub levels-preserved : goal.levels-preserved
levels-preserved t c =
    let test = c.levels-test.true in
    let size = c.len-place-end.ensures in
    let view = ap length c.other.view_is in
    let other = c.args.other.now in
    levels_go c.args.mode c.args.self.now other c.levels.self other c.levels.place c.in_ok-level.level c.merge_level.new.self other
    c.requires c.levels.invariant (omega (arith, test, size, view)) (taken_at other c.levels.place c.in_ok-level.level c.index.result.now (omega (arith, test, size, view)) (c.in_ok-level.ensures ∙ c.index.ensures ∙ ap (λ xs. get_or xs c.levels.place c.index.result.now) c.other.view_is)) refl
    (λ k behind. refl) c.in_ok-merge_level.ensures.levels c.in_ok-merge_level.ensures.long

pub returns-clause-levels : goal.returns-clause-levels
returns-clause-levels t c =
    let test = c.levels-test.false in
    let size = c.len-place-end.ensures in
    let view = ap length c.other.view_is in
    levels_end c.args.mode c.args.self.now c.args.other.now c.levels.self c.args.other.now c.levels.place c.requires c.levels.invariant (omega (arith, test, size, view))
