use Rattle.std.proofs.Common.{◌≡◌, Some, IfSome, sym, ap, subst, ◌∙◌}
use Rattle.std.proofs.lemmas.Option.{slice_get-map}
use Rattle.std.specs.List.{position}
use Rattle.std.specs.Map.{keys_of, lookup}
use Rattle.std.specs.Option.{option_map}
use Rattle.indexmap.specs.IndexMap.{get, keys}
use Rattle.kx_merge.specs.Offers.{merged_value, merged_width}
use Rattle.kx_merge.specs.Records.{TableShows, cell_in, width_in}
use Rattle.kx_merge.proofs.Steps.{shows_more, shows_first, keys-put, keys-there, on_both}
use Rattle.kx_ordered.specs.KeyPlaces.{place_in}
use Rattle.kx_ordered.proofs.KeyPlaces.{found, keys-with_value, missing, place_is, written}
use Rattle.kx_merge.proofs.merging.add_one.Goals as goal

pub returns-in-Some-clause-shows : goal.returns-in-Some-clause-shows
returns-in-Some-clause-shows g c = λ o is os shows.
    let eq = g.R.Key.PartialEq.eq in
    let form = g.R.Fields.form in
    let mode = c.args.mode in
    let key = c.args.key in
    let there = c.push_new.new.self in
    let es = there.entries in
    let place = c.in-Some.place in
    let made = c.merge.new.self in
    let back : (c.in-Some.given ≡ c.args.given) × (there ≡ c.args.records.now) = subst (λ found. IfSome found (λ f. (f.1 ≡ c.args.given) × (there ≡ c.args.records.now))) c.in-Some.is c.in_ok-push_new.ensures.back in
    let at : place_in (eq key) es ≡ Some place = sym (place_is (eq key) es) ∙ ap (λ m. position (eq key) (keys m)) back.1 ∙ sym c.in_ok-push_new.ensures.place ∙ ap (option_map (λ f. f.0)) c.in-Some.is in
    let old = sym c.value_mut.ensures.value ∙ slice_get-map (λ x. x.1) es place ∙ sym (found (eq key) es place at) in
    on_both c.merge.result c.merge.ensures.cells c.merge.ensures.widths (λ cells widths.
    shows_more form eq g.met.R.Key.Eq.laws g.met.R.Fields.same (keys there) _ (get eq there) _ os mode key c.args.given made o (subst (λ m. TableShows form eq m os) (sym back.1) shows) is
    (keys-with_value es place made ∙ sym (keys-there eq es key c.value_mut.result.now old))
    (written eq g.met.R.Key.Eq.laws key made es place at)
    (λ at. cells at ∙ ap (λ found. merged_value mode (cell_in form found at) (form.cell c.in-Some.given at)) old ∙ ap (λ given. merged_value mode (cell_in form (lookup (eq key) es) at) (form.cell given at)) back.0)
    (λ group. widths group ∙ ap (λ found. merged_width mode (width_in form found group) (form.width c.in-Some.given group)) old ∙ ap (λ given. merged_width mode (width_in form (lookup (eq key) es) group) (form.width given group)) back.0))

pub returns-in-None-clause-shows : goal.returns-in-None-clause-shows
returns-in-None-clause-shows g c = λ o is os shows.
    let eq = g.R.Key.PartialEq.eq in
    let key = c.args.key in
    let before = c.args.records.now in
    let es = before.entries in
    let nowhere = sym (place_is (eq key) es) ∙ sym c.in_ok-push_new.ensures.place ∙ ap (option_map (λ f. f.0)) c.in-None.is in
    shows_first g.R.Fields.form eq g.met.R.Key.Eq.laws g.met.R.Fields.same (keys before) (keys c.push_new.new.self) (get eq before) (get eq c.push_new.new.self) os c.args.mode key c.args.given o shows is
    (ap keys_of (c.in_ok-push_new.ensures.entries c.in-None.is) ∙ keys-put eq es key c.args.given)
    (missing (eq key) es nowhere)
    (c.in_ok-push_new.ensures.updates c.in-None.is)
