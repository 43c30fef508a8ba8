use Rattle.std.proofs.Common.{sym, ap, ◌∙◌}
use Rattle.std.specs.Map.{lookup}
use Rattle.std.specs.Option.{option_copied}
use Rattle.std.specs.Str.{bytes_eq}
use Rattle.std.proofs.lemmas.Cmp.{nat_list_eq_equiv}
use Rattle.std.proofs.lemmas.Map.Entries.{lookup_from_place}
use Rattle.std.proofs.lemmas.Slice.Eq.{bytes_eq-Decides}
use Rattle.kx_ordered.specs.KeyPlaces.{place_in}
use Rattle.kx_ordered.proofs.KeyPlaces.{place_from, place_is}
use Rattle.kx_ordered.proofs.short_name.Ordered+ShortName+V.found_near.Goals as goal

pub returns-then-eq-clause-value : goal.returns-then-eq-clause-value
returns-then-eq-clause-value g c =
    let es = c.args.self.now.entries in
    let entry = c.in-Some.field-0.now in
    let at = sym c.entry.ensures.value ∙ ap option_copied c.in-Some.is in
    let same = sym c.as_slice-bytes.ensures ∙ (bytes_eq-Decides c.as_slice-bytes.result.now c.args.name.now).0 (sym c.eq.ensures ∙ c.if-eq.true) in
    sym (lookup_from_place nat_list_eq_equiv es c.args.near entry.0 entry.1 c.entry.ensures.unique at) ∙ ap (λ name. lookup (bytes_eq name) es) same

pub returns-then-eq-clause-place : goal.returns-then-eq-clause-place
returns-then-eq-clause-place g c =
    let es = c.args.self.now.entries in
    let entry = c.in-Some.field-0.now in
    let at = sym c.entry.ensures.value ∙ ap option_copied c.in-Some.is in
    let same = sym c.as_slice-bytes.ensures ∙ (bytes_eq-Decides c.as_slice-bytes.result.now c.args.name.now).0 (sym c.eq.ensures ∙ c.if-eq.true) in
    place_is (bytes_eq c.args.name.now) es ∙ ap (λ name. place_in (bytes_eq name) es) (sym same) ∙ place_from nat_list_eq_equiv es c.args.near entry.0 entry.1 c.entry.ensures.unique at
