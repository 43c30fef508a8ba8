use Rattle.kx_key_lists.proofs.LaterLists.{LevelsBehind}
use Rattle.kx_key_lists.proofs.levels.Levels.merge.Given as goal

abbrev pub invariant-levels : goal.invariant-levels
invariant-levels t l = LevelsBehind l.mode l.initial.self l.fn.other l.self l.later.items l.place
