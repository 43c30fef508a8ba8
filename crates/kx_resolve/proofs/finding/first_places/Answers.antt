use Rattle.std.proofs.Common.{ℕ, ◌==◌, Bool, nat_eq}
use Rattle.std.specs.List.{list_any}
use Rattle.indexmap.specs.IndexMap.{get}
use Rattle.kx_resolve.proofs.Walking.{all_first, all_found}
use Rattle.kx_resolve.specs.NamedKeys.{mapping_in}
use Rattle.kx_resolve.proofs.finding.first_places.Goals as goal

pub returns-clause-firsts : goal.returns-clause-firsts
returns-clause-firsts c =
    let m = mapping_in c.args.keys c.args.maps.now in
    let named : ℕ → Bool = λ k. list_any (λ (e : ℕ × ℕ). e.0 == k) m.keysym_maps in
    all_found m named (get nat_eq c.in_ok-firsts.firsts) (get nat_eq c.visit_codes.new.firsts) c.in_ok-firsts.ensures.named (c.visit_codes.ensures c.args.maps.now)

pub returns-clause-least : goal.returns-clause-least
returns-clause-least c =
    let m = mapping_in c.args.keys c.args.maps.now in
    let named : ℕ → Bool = λ k. list_any (λ (e : ℕ × ℕ). e.0 == k) m.keysym_maps in
    all_first m named (get nat_eq c.visit_codes.new.firsts) (returns-clause-firsts c)
