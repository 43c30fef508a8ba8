use Rattle.std.proofs.Common.{◌≡◌, Some, None, length, refl, sym, ap, subst, ◌∙◌}
use Rattle.std.specs.List.{slice_get}
use Rattle.std.specs.Option.{option_map}
use Rattle.std.proofs.lemmas.Bool.{ltb-true, ltb-false}
use Rattle.std.proofs.lemmas.Option.{slice_get_past, slice_get_read}
use Rattle.kx_ordered.proofs.ordered.Ordered.value.Goals as goal

pub returns-in-Some : goal.returns-in-Some
returns-in-Some g c =
    let es = c.deref.result.now in
    let same = c.deref.ensures.value ∙ ap (λ m. m.entries) c.self.view_is in
    let within = ltb-true c.args.place (length es) (sym c.in-Some.ensures.lookup.0) in
    ap (option_map (λ e. e.1)) (subst (λ es. Some c.in-Some.field-0.now ≡ slice_get es c.args.place) same
    (sym (slice_get_read es (length es) c.args.place c.in-Some.field-0.now refl within c.in-Some.ensures.lookup.1)))

pub returns-in-None : goal.returns-in-None
returns-in-None g c =
    let es = c.deref.result.now in
    let same = c.deref.ensures.value ∙ ap (λ m. m.entries) c.self.view_is in
    let past = ltb-false c.args.place (length es) (sym c.in-None.ensures.lookup.0) in
    ap (option_map (λ e. e.1)) (subst (λ es. None ≡ slice_get es c.args.place) same (sym (slice_get_past es c.args.place past)))
