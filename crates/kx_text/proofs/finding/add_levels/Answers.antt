use Rattle.std.proofs.Common.{◌≡◌, ◌<◌, ◌++◌, ◌∷◌, [], rules}
use Rattle.kx_text.specs.Finding.{IsLevelOf}
use Rattle.kx_text.proofs.FoundSpots.{level_spot, all_push, all_same, kept_push, each_push}
use Rattle.kx_text.proofs.finding.add_levels.Goals as goal
use Rattle.kx_text.proofs.finding.add_levels.Goals.{then-level_gives+in_ok-push, else-level_gives}

pub loop-level-preserved : goal.loop-level-preserved
loop-level-preserved g c =
    let content = g.T.Rows.content c.args.tables.now in
    let level = c.loop-level.level in
    elim c.if-level_gives.branch [
      | then-level_gives+in_ok-push w ↦
          let below : level < c.args.levels = search rules in
          let pushed : c.if-level_gives.found.items ≡ c.loop-level.found.items ++ record { key = c.args.key; group = c.args.group; level = level } ∷ [] = search rules in
          let here = level_spot content c.args.keysyms.now c.args.row c.args.levels c.args.key c.args.group level below (c.level_gives.ensures.yes w.if-level_gives.true) in
          record {
            kept = kept_push _ c.loop-level.found.items _ _ pushed c.loop-level.invariant.kept;
            each = each_push (IsLevelOf content c.args.keysyms.now c.args.row c.args.levels c.args.key c.args.group) _ c.loop-level.found.items _ _ pushed c.loop-level.invariant.each here;
            all = all_push content c.args.keysyms.now c.args.row c.args.levels c.args.key c.args.group c.loop-level.found.items _ level pushed c.loop-level.invariant.all;
          }
      | else-level_gives w ↦
          rw (w.found-is) (record {
            kept = c.loop-level.invariant.kept;
            each = c.loop-level.invariant.each;
            all = all_same content c.args.keysyms.now c.args.row c.args.levels c.args.key c.args.group c.loop-level.found.items level (c.level_gives.ensures.no w.if-level_gives.false) c.loop-level.invariant.all;
          })
    ]
