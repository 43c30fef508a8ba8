use Rattle.kx_key_lists.proofs.LaterLists.{ListsBehind}
use Rattle.kx_key_lists.proofs.merging.merge_groups_copied.Given as goal

abbrev pub invariant-lists : goal.invariant-lists
invariant-lists t l = ListsBehind l.mode l.from l.initial.lists.items l.later l.lists.items l.later l.place
