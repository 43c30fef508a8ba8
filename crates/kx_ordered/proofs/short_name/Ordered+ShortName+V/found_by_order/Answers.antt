use Rattle.std.proofs.Common.{sym, ap, ◌∙◌}
use Rattle.std.specs.Option.{option_copied}
use Rattle.std.specs.Str.{bytes_eq}
use Rattle.kx_ordered.proofs.KeyPlaces.{place_is, missing, found}
use Rattle.kx_ordered.proofs.short_name.Ordered+ShortName+V.found_by_order.Goals as goal

pub returns-in-None-clause-value : goal.returns-in-None-clause-value
returns-in-None-clause-value g c =
    let eq = bytes_eq c.args.name.now in
    let es = c.args.self.now.entries in
    sym (missing eq es (sym (place_is eq es) ∙ sym c.place_of_short_name.ensures.value ∙ c.in-None.is))

pub returns-in-None-value-clause-value : goal.returns-in-None-value-clause-value
returns-in-None-value-clause-value g c =
    let eq = bytes_eq c.args.name.now in
    let es = c.args.self.now.entries in
    ap option_copied (sym c.in-None-value.is) ∙ c.value.ensures ∙ sym (found eq es c.in-Some.place (sym (place_is eq es) ∙ sym c.place_of_short_name.ensures.value ∙ c.in-Some.is))

pub returns-in-Some-value-clause-value : goal.returns-in-Some-value-clause-value
returns-in-Some-value-clause-value g c =
    let eq = bytes_eq c.args.name.now in
    let es = c.args.self.now.entries in
    ap option_copied (sym c.in-Some-value.is) ∙ c.value.ensures ∙ sym (found eq es c.in-Some.place (sym (place_is eq es) ∙ sym c.place_of_short_name.ensures.value ∙ c.in-Some.is))
