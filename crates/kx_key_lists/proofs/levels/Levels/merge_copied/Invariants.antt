use Rattle.kx_key_lists.proofs.LaterLists.{LevelsBehind}
use Rattle.kx_key_lists.proofs.levels.Levels.merge_copied.Given as goal

abbrev pub invariant-levels : goal.invariant-levels
invariant-levels t l = LevelsBehind l.mode l.initial.self l.other l.self l.other l.place
