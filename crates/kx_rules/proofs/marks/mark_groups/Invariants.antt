use Rattle.std.proofs.Common.{◌≡◌, drop}
use Rattle.kx_rules.specs.Marks.{with_groups}
use Rattle.kx_rules.proofs.marks.mark_groups.Given as goal

abbrev pub invariant-flags : goal.invariant-flags
invariant-flags l = with_groups l.groups l.place (drop l.place l.flags) l.marks.items ≡ with_groups l.groups 0 l.flags l.initial.marks.items
