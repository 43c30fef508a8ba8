use Rattle.std.proofs.Common.{String, ap, refl, sym, ◌∙◌}
use Rattle.std.specs.Cmp.Lexicographic.{nat_list_cmp_total, slice_cmp}
use Rattle.std.specs.Global.{Global}
use Rattle.std.specs.Ordering.{nat_cmp}
use Rattle.std.specs.Str.{bytes_eq}
use Rattle.std.specs.String.{string_bytes}
use Rattle.kx_ordered.specs.KeyPlaces.{place_in}
use Rattle.kx_ordered.proofs.ByBytes.{bytes_tie}
use Rattle.kx_ordered.proofs.KeyPlaces.{found, missing}
use Rattle.kx_ordered.proofs.by_text.Ordered+String+V.value_of_text.Goals as goal

pub returns-in-None : goal.returns-in-None
returns-in-None g c =
    let text = c.args.text.now in
    let named = λ (k : String Global). bytes_eq text (string_bytes k) in
    let es = c.args.self.now.entries in
    let at = c.copied.ensures ∙ c.get.ensures.value ∙ c.places.ensures (λ k. slice_cmp nat_cmp text (string_bytes k)) (λ x y. nat_list_cmp_total.congr text (string_bytes x) (string_bytes y)) (λ k e. refl) in
    let placed = sym at ∙ c.in-None.is in
    sym (missing named es (ap (λ test. place_in test es) (λ i k. bytes_tie text (string_bytes k) i) ∙ placed))

pub returns-in-Some : goal.returns-in-Some
returns-in-Some g c =
    let text = c.args.text.now in
    let named = λ (k : String Global). bytes_eq text (string_bytes k) in
    let es = c.args.self.now.entries in
    let at = c.copied.ensures ∙ c.get.ensures.value ∙ c.places.ensures (λ k. slice_cmp nat_cmp text (string_bytes k)) (λ x y. nat_list_cmp_total.congr text (string_bytes x) (string_bytes y)) (λ k e. refl) in
    let placed = sym at ∙ c.in-Some.is in
    c.value.ensures ∙ sym (found named es c.in-Some.place (ap (λ test. place_in test es) (λ i k. bytes_tie text (string_bytes k) i) ∙ placed))
