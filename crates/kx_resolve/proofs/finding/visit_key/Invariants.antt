use Rattle.std.proofs.Common.{nat_eq}
use Rattle.indexmap.specs.IndexMap.{get}
use Rattle.kx_keys.specs.Given.{given}
use Rattle.kx_resolve.specs.Finding.{Visits}
use Rattle.kx_keys.specs.Mapping.{group_places}
use Rattle.kx_keys.specs.Typing.{typing_of}
use Rattle.kx_resolve.proofs.finding.visit_key.Given as goal

abbrev pub invariant-groups : goal.invariant-groups
invariant-groups l = Visits (λ k. group_places k (typing_of l.typing) (given l.key) l.code l.group) (get nat_eq l.fn.firsts) (get nat_eq l.firsts)
