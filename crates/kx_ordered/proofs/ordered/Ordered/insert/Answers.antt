use Rattle.std.proofs.Common.{◌≡◌, Some, sym, ◌∙◌}
use Rattle.kx_ordered.specs.KeyPlaces.{place_in}
use Rattle.kx_ordered.proofs.KeyPlaces.{place_is, missing, insert_there, written}
use Rattle.kx_ordered.proofs.ordered.Ordered.insert.Goals as goal

pub push-requires : goal.push-requires
push-requires g c =
    let eq = g.K.PartialEq.eq c.args.key in
    let es = c.args.self.now.entries in
    missing eq es (sym (place_is eq es) ∙ sym c.place.ensures.value ∙ c.in-None.is)

pub returns-in-Some : goal.returns-in-Some
returns-in-Some g c =
    let eq = g.K.PartialEq.eq in
    let key = c.args.key in
    let es = c.args.self.now.entries in
    let place = c.in-Some.place in
    let at : place_in (eq key) es ≡ Some place = sym (place_is (eq key) es) ∙ sym c.place.ensures.value ∙ c.in-Some.is in
    record { entries = insert_there eq key c.args.value es place at; updates = written eq g.met.K.Eq.laws key c.args.value es place at; err = tt }
