use Rattle.std.proofs.Common.{◌≡◌, ℕ, ◌<◌, List, [], Ok, Err, None, Some, get_or, length, map, sym, ap, subst, ◌∙◌, arith, inl, inr}
use Rattle.std.proofs.lemmas.Bool.{cases_lt}
use Rattle.std.proofs.lemmas.List.Sorted.{searched}
use Rattle.std.specs.List.Sorted.{IsBinarySearchResult}
use Rattle.std.specs.Ordering.{nat_cmp}
use Rattle.ks_core.specs.Entry.{Entry, name_in}
use Rattle.ks_core.specs.Rising.{IsRising}
use Rattle.ks_core.specs.X11.{x11_names, x11_firsts}
use Rattle.ks_core.proofs.X11Lemmas.{hit, first-within, first-keysym, first-named, none-named}
use Rattle.ks_core.proofs.x11.name_of.Goals as goal

abbrev firsts : List ℕ
firsts = map (λ (e : Entry). e.1) x11_firsts

-- a place that a search among the keysyms answers, and what it says where it finds none
found : (keysyms : List ℕ) (keysym place : ℕ) → keysyms ≡ firsts → IsRising keysyms → IsBinarySearchResult (λ y. nat_cmp y keysym) keysyms (Ok place) → (place < length firsts) × (get_or firsts place 0 ≡ keysym)
found keysyms keysym place are rising is =
    let at = searched keysyms keysym (Ok place) is rising.rises in
    (subst (λ ks. place < length ks) are at.0, ap (λ ks. get_or ks place 0) (sym are) ∙ at.1)

absent : (keysyms : List ℕ) (keysym place : ℕ) → keysyms ≡ firsts → IsRising keysyms → IsBinarySearchResult (λ y. nat_cmp y keysym) keysyms (Err place) → name_in x11_names keysym ≡ None
absent keysyms keysym place are rising is =
    let at = searched keysyms keysym (Err place) is rising.rises in
    none-named keysym (λ d within has.
    let inside = subst (λ ks. d < length ks) (sym are) within in
    let here : get_or keysyms d 0 ≡ keysym = ap (λ ks. get_or ks d 0) are ∙ has in
    elim (cases_lt d place) [
      | inl before ↦ let less = at.1 d before in omega (arith, less, here)
      | inr after ↦ let more = at.2 d after inside in omega (arith, more, here)
    ])

pub text_at-requires : goal.text_at-requires
text_at-requires c = first-within c.in-Ok.place (found c.firsts.result.now c.args.keysym c.in-Ok.place c.firsts.ensures.keysyms c.firsts.ensures.rising c.in-Ok.ensures.position).0

pub returns-in-Ok-clause-first : goal.returns-in-Ok-clause-first
returns-in-Ok-clause-first c =
    let at = found c.firsts.result.now c.args.keysym c.in-Ok.place c.firsts.ensures.keysyms c.firsts.ensures.rising c.in-Ok.ensures.position in
    ap Some c.text_at.ensures ∙ sym (first-named c.in-Ok.place c.args.keysym ([], 0) at.0 at.1)

pub returns-in-Ok-clause-back : goal.returns-in-Ok-clause-back
returns-in-Ok-clause-back c =
    let at = found c.firsts.result.now c.args.keysym c.in-Ok.place c.firsts.ensures.keysyms c.firsts.ensures.rising c.in-Ok.ensures.position in
    hit c.by_hash.result.shifts.now c.by_hash.result.slots.now x11_names c.by_hash.ensures.placed c.text_at.result.now c.in-Ok.place ([], 0) (first-within c.in-Ok.place at.0) (sym c.text_at.ensures)
    ∙ ap Some (first-keysym c.in-Ok.place c.args.keysym ([], 0) at.0 at.1)

pub returns-in-Err-clause-first : goal.returns-in-Err-clause-first
returns-in-Err-clause-first c = sym (absent c.firsts.result.now c.args.keysym c.in-Err.field-0 c.firsts.ensures.keysyms c.firsts.ensures.rising c.in-Err.ensures.position)
