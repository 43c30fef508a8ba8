use Rattle.std.proofs.Common.{nat_eq}
use Rattle.indexmap.specs.IndexMap.{get}
use Rattle.kx_keys.specs.Given.{given}
use Rattle.kx_resolve.specs.Finding.{Visits}
use Rattle.kx_keys.specs.Mapping.{level_places}
use Rattle.kx_resolve.proofs.finding.visit_group.Given as goal

abbrev pub invariant-levels : goal.invariant-levels
invariant-levels l = Visits (λ k. level_places k (given l.key) l.code l.group l.level) (get nat_eq l.fn.firsts) (get nat_eq l.firsts)
