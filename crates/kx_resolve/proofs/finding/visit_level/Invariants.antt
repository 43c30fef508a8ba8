use Rattle.std.proofs.Common.{◌∷◌, [], nat_eq, take, if◌then◌else◌}
use Rattle.std.specs.Set.{is_member}
use Rattle.indexmap.specs.IndexMap.{get}
use Rattle.kx_resolve.specs.Finding.{Visits}
use Rattle.kx_resolve.proofs.finding.visit_level.Given as goal

abbrev pub invariant-keysyms : goal.invariant-keysyms
invariant-keysyms l = Visits (λ k. if is_member nat_eq (take l.keysym-index l.keysyms) k then l.place ∷ [] else []) (get nat_eq l.fn.firsts) (get nat_eq l.firsts)
