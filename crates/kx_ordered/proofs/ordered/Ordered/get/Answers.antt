use Rattle.std.proofs.Common.{sym, ◌∙◌}
use Rattle.kx_ordered.proofs.KeyPlaces.{place_is, missing, found}
use Rattle.kx_ordered.proofs.ordered.Ordered.get.Goals as goal

pub returns-in-None : goal.returns-in-None
returns-in-None g c =
    let eq = g.K.PartialEq.eq c.args.key.now in
    let es = c.args.self.now.entries in
    record { value = sym (missing eq es (sym (place_is eq es) ∙ sym c.place.ensures.value ∙ c.in-None.is)) }

pub returns-in-Some : goal.returns-in-Some
returns-in-Some g c =
    let eq = g.K.PartialEq.eq c.args.key.now in
    let es = c.args.self.now.entries in
    record { value = c.value.ensures ∙ sym (found eq es c.in-Some.place (sym (place_is eq es) ∙ sym c.place.ensures.value ∙ c.in-Some.is)) }
