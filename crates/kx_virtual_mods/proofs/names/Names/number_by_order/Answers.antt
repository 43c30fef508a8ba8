use Rattle.std.proofs.Common.{Some, is_some, refl, sym, ap, ◌∙◌}
use Rattle.std.specs.List.{list_any, position}
use Rattle.std.specs.Map.{keys_of, lookup}
use Rattle.std.specs.Str.{bytes_eq}
use Rattle.kx_merge.specs.Offers.{with_name}
use Rattle.kx_ordered.proofs.KeyPlaces.{missing, place_is}
use Rattle.kx_virtual_mods.proofs.Keyed.{add_present, keys_put, named_last, placed_any}
use Rattle.kx_virtual_mods.proofs.names.Names.number_by_order.Goals as goal

pub returns-in-Some-clause-added : goal.returns-in-Some-clause-added
returns-in-Some-clause-added c =
    let same = bytes_eq c.args.name.now in
    let es = c.self.inside.numbers.entries in
    let there = sym (placed_any same es) ∙ ap is_some (sym (place_is same es) ∙ sym c.place_of_owned_name.ensures.value ∙ c.in-Some.is) in
    add_present c.args.self.now c.args.self.now c.args.name.now (ap (list_any same) (sym c.self.view_is) ∙ there) refl

pub returns-in-Some-clause-number : goal.returns-in-Some-clause-number
returns-in-Some-clause-number c = ap (position (bytes_eq c.args.name.now)) (sym c.self.view_is) ∙ sym c.place_of_owned_name.ensures.value ∙ c.in-Some.is

pub push-requires : goal.push-requires
push-requires c =
    let es = c.self.inside.numbers.entries in
    ap (λ name. lookup (bytes_eq name) es) c.in_ok-name-in-None.ensures
    ∙ missing (bytes_eq c.args.name.now) es (sym (place_is (bytes_eq c.args.name.now) es) ∙ sym c.place_of_owned_name.ensures.value ∙ c.in-None.is)

pub returns-in_ok-push-in-None-clause-added : goal.returns-in_ok-push-in-None-clause-added
returns-in_ok-push-in-None-clause-added c =
    let name = c.in_ok-name-in-None.name in
    ap keys_of c.in_ok-push-in-None.ensures.entries ∙ keys_put bytes_eq c.self.inside.numbers.entries name tt
    ∙ ap (λ names. with_name bytes_eq names name) c.self.view_is ∙ ap (with_name bytes_eq c.args.self.now) c.in_ok-name-in-None.ensures

pub returns-in_ok-push-in-None-clause-number : goal.returns-in_ok-push-in-None-clause-number
returns-in_ok-push-in-None-clause-number c =
    let name = c.in_ok-name-in-None.name in
    let es = c.self.inside.numbers.entries in
    ap (position (bytes_eq c.args.name.now)) (ap keys_of c.in_ok-push-in-None.ensures.entries ∙ keys_put bytes_eq es name tt ∙ ap (with_name bytes_eq (keys_of es)) c.in_ok-name-in-None.ensures)
    ∙ named_last c.args.name.now es tt (sym c.place_of_owned_name.ensures.value ∙ c.in-None.is) ∙ ap Some (sym c.len-number.ensures)
