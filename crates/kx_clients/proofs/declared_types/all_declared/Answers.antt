use Rattle.std.proofs.Common.{◌++◌, ◌∷◌, [], ap, arith, sym, take, ◌∙◌, ℕ, List, Option}
use Rattle.std.proofs.lemmas.List.{flat_map_more, length-map, take_all, take_more}
use Rattle.std.proofs.lemmas.Option.{get_or_from_slice_get, slice_get_within}
use Rattle.std.specs.List.{flat_map}
use Rattle.kx_types.specs.KeyTypes.{Definition}
use Rattle.kx_types.specs.Types.{names_in, type_named}
use Rattle.kx_virtual_mods.specs.Sets.{real_of}
use Rattle.kx_virtual_mods.specs.Standing.{stands_for}
use Rattle.kx_clients.specs.DeclaredTypes.{defined_type}
use Rattle.kx_clients.proofs.declared_types.all_declared.Goals as goal

pub places-preserved : goal.places-preserved
places-preserved c =
    let f = defined_type (real_of (stands_for c.args.stands.now)) (type_named c.args.types.now) in
    let names = names_in c.args.types.now in
    let name = c.name_at.result.now in
    let place = c.places.place in
    let front = take place names in
    c.in_ok-add_declared.ensures
    ∙ ap (λ xs. xs ++ f name) c.places.invariant
    ∙ flat_map_more f [] front name
    ∙ ap (λ x. flat_map f (front ++ x ∷ [])) (sym (get_or_from_slice_get names place name name c.name_at.ensures))
    ∙ ap (flat_map f) (sym (take_more names place name (slice_get_within names place name c.name_at.ensures)))

pub returns : goal.returns
returns c =
    let f = defined_type (real_of (stands_for c.args.stands.now)) (type_named c.args.types.now) in
    c.places.invariant ∙ ap (flat_map f) (take_all c.places.place (names_in c.args.types.now) (omega (arith, length-map c.args.types.now (λ (t : List ℕ × Option Definition). t.0), c.places-test.false, c.len-place-end.ensures.value)))
