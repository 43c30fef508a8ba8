use Rattle.std.proofs.Common.{ℕ, List, ap, refl, sym, ◌∙◌}
use Rattle.std.specs.Ordering.{is_eq}
use Rattle.std.specs.Str.{bytes_eq}
use Rattle.kx_ordered.specs.KeyPlaces.{place_in}
use Rattle.kx_ordered.specs.Names.{name_cmp, name_cmp_ties, name_cmp_total}
use Rattle.kx_ordered.proofs.KeyPlaces.{place_is, within}
use Rattle.kx_ordered.proofs.name_key.Ordered+NameKey+V.place_of_lent_name.Goals as goal

pub returns : goal.returns
returns g c =
    let name = c.args.name.now in
    let es = c.args.self.now.entries in
    let at = c.copied.ensures ∙ c.get.ensures.value ∙ c.places.ensures (name_cmp c.of.result) (name_cmp_total.congr c.of.result) (λ k e. refl) in
    let named = at ∙ ap (λ (n : List ℕ). place_in (λ k. is_eq (name_cmp n k)) es) c.of.ensures ∙ ap (λ test. place_in test es) (λ i k. sym (name_cmp_ties name k) i) in
    record { value = named ∙ sym (place_is (bytes_eq name) es); within = within (bytes_eq name) es c.copied.result named }
