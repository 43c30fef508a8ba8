use Rattle.std.proofs.Common.{◌≡◌, drop}
use Rattle.kx_rules.specs.Marks.{mark_all}
use Rattle.kx_rules.proofs.marks.mark_all.Given as goal

abbrev pub invariant-places : goal.invariant-places
invariant-places l = mark_all (drop l.place-index l.places) l.marks.items ≡ mark_all l.places l.initial.marks.items
