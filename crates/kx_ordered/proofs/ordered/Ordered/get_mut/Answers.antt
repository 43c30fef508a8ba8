use Rattle.std.proofs.Common.{◌≡◌, Some, is_some, true≢false, refl, sym, ap, ◌∙◌}
use Rattle.std.proofs.lemmas.Option.{slice_get-map}
use Rattle.kx_ordered.specs.KeyPlaces.{place_in}
use Rattle.kx_ordered.proofs.KeyPlaces.{place_is, missing, found, keys-with_value, written}
use Rattle.kx_ordered.proofs.ordered.Ordered.get_mut.Goals as goal

pub returns-in-None : goal.returns-in-None
returns-in-None g c =
    let eq = g.K.PartialEq.eq c.args.key.now in
    let es = c.args.self.now.entries in
    let none = missing eq es (sym (place_is eq es) ∙ sym c.place.ensures.value ∙ c.in-None.is) in
    ((refl, λ w. (refl, λ some. absurd (true≢false (sym some ∙ ap is_some none))), refl), record { writes_back = tt; value = sym none })

pub returns-in-Some : goal.returns-in-Some
returns-in-Some g c =
    let eq = g.K.PartialEq.eq in
    let key = c.args.key.now in
    let es = c.args.self.now.entries in
    let place = c.in-Some.place in
    let at : place_in (eq key) es ≡ Some place = sym (place_is (eq key) es) ∙ sym c.place.ensures.value ∙ c.in-Some.is in (
      (refl, λ w. (keys-with_value es place w, λ some. written eq g.met.K.Eq.laws key w es place at), refl),
      record { writes_back = tt; value = sym c.value_mut.ensures.value ∙ slice_get-map (λ x. x.1) es place ∙ sym (found (eq key) es place at) },
    )
