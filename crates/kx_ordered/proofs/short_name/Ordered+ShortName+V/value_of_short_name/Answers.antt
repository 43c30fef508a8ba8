use Rattle.std.proofs.Common.{sym, ◌∙◌}
use Rattle.std.specs.Str.{bytes_eq}
use Rattle.kx_ordered.proofs.KeyPlaces.{place_is, missing, found}
use Rattle.kx_ordered.proofs.short_name.Ordered+ShortName+V.value_of_short_name.Goals as goal

pub returns-in-None : goal.returns-in-None
returns-in-None g c =
    let eq = bytes_eq c.args.name.now in
    let es = c.args.self.now.entries in
    sym (missing eq es (sym (place_is eq es) ∙ sym c.place_of_short_name.ensures.value ∙ c.in-None.is))

pub returns-in-Some : goal.returns-in-Some
returns-in-Some g c =
    let eq = bytes_eq c.args.name.now in
    let es = c.args.self.now.entries in
    c.value.ensures ∙ sym (found eq es c.in-Some.place (sym (place_is eq es) ∙ sym c.place_of_short_name.ensures.value ∙ c.in-Some.is))
