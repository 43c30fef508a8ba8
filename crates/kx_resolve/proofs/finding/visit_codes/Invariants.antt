use Rattle.std.proofs.Common.{nat_eq}
use Rattle.indexmap.specs.IndexMap.{get}
use Rattle.kx_modmaps.specs.Maps.{Maps}
use Rattle.kx_resolve.specs.Finding.{Visits}
use Rattle.kx_keys.specs.Mapping.{places_below}
use Rattle.kx_resolve.specs.NamedKeys.{mapping_in}
use Rattle.kx_resolve.proofs.finding.visit_codes.Given as goal

abbrev pub invariant-codes : goal.invariant-codes
invariant-codes l = (maps : Maps) → Visits (λ k. places_below k (mapping_in l.keys maps) l.code) (get nat_eq l.fn.firsts) (get nat_eq l.firsts)
