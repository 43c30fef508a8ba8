use Rattle.std.proofs.Common.{[], Some, nat_eq, refl, sym}
use Rattle.indexmap.specs.IndexMap.{get}
use Rattle.kx_symbols.specs.Keys.{key_at}
use Rattle.kx_resolve.proofs.Named.{of_named, of_none}
use Rattle.kx_resolve.proofs.PlaceSteps.{none_places}
use Rattle.kx_resolve.proofs.Visiting.{visits_alike, visits_none}
use Rattle.kx_keys.specs.Given.{given}
use Rattle.kx_keys.specs.Mapping.{key_places}
use Rattle.kx_resolve.specs.NamedKeys.{name_in, places_of_key, places_on, typing_in}
use Rattle.kx_resolve.proofs.finding.visit_code.Goals as goal

pub returns-in-Some : goal.returns-in-Some
returns-in-Some c =
    let keys = c.args.keys in
    let code = c.args.code in
    let key = c.in-Some.key.now in
    let here = places_on (typing_in keys) (given key) code in
    visits_alike (get nat_eq c.args.firsts.now) here (places_of_key keys code) (get nat_eq c.visit_key.new.firsts) c.visit_key.ensures
    (λ k. sym (of_named (key_places k (typing_in keys) code) (name_in keys code) (key_at keys.keys.now code) key (here k) c.in-Some.ensures (λ name. refl)))

pub returns-in-None : goal.returns-in-None
returns-in-None c =
    let keys = c.args.keys in
    let code = c.args.code in
    visits_none (get nat_eq c.args.firsts.now) (places_of_key keys code)
    (λ k. of_none (key_places k (typing_in keys) code) (name_in keys code) (key_at keys.keys.now code) [] c.in-None.ensures (λ key. refl) (λ name. none_places k (typing_in keys) code (Some name)))
