use Rattle.std.proofs.Common.{◌≡◌, drop}
use Rattle.kx_rules.specs.Marks.{marked}
use Rattle.kx_rules.proofs.marks.mark_uses.Given as goal

abbrev pub invariant-uses : goal.invariant-uses
invariant-uses l = marked l.subject (drop l.found-index l.uses) l.marks.items ≡ marked l.subject l.uses l.initial.marks.items
