use Rattle.std.proofs.Common.{◌≡◌, ℕ, ◌<◌, List, Ok, Err, None, Some, get_or, length, map, nat_eq, sym, ap, subst, ◌∙◌, arith, inl, inr}
use Rattle.std.proofs.lemmas.Bool.{cases_lt}
use Rattle.std.proofs.lemmas.List.Sorted.{searched}
use Rattle.std.specs.List.Sorted.{IsBinarySearchResult}
use Rattle.std.specs.Map.{lookup}
use Rattle.std.specs.Ordering.{nat_cmp}
use Rattle.ks_core.specs.Rising.{IsRising}
use Rattle.kx_text.specs.OlderCharacters.{older_characters}
use Rattle.kx_text.proofs.CharacterTable.{Row, row_at, table, kept, found, absent, length_is, number_at, scalar_given}
use Rattle.kx_text.proofs.characters.older_character.Goals as goal

abbrev keysyms : List ℕ
keysyms = map (λ (row : Row). row.0) older_characters

-- the row at a place that a search among the keysyms answers
place_of : (ks : List ℕ) (keysym place : ℕ) → ks ≡ keysyms → IsRising ks → IsBinarySearchResult (λ y. nat_cmp y keysym) ks (Ok place) → (place < length older_characters) × ((row_at older_characters place).0 ≡ keysym)
place_of ks keysym place are rising is =
    let at = searched ks keysym (Ok place) is rising.rises in
    let within : place < length older_characters = subst (λ n. place < n) (length_is (λ row. row.0) ks are) at.0 in
    (within, sym (number_at (λ row. row.0) ks place are within) ∙ at.1)

nowhere : (ks : List ℕ) (keysym place : ℕ) → ks ≡ keysyms → IsRising ks → IsBinarySearchResult (λ y. nat_cmp y keysym) ks (Err place) → lookup (nat_eq keysym) older_characters ≡ None
nowhere ks keysym place are rising is =
    let at = searched ks keysym (Err place) is rising.rises in
    absent keysym older_characters (λ i within has.
    let there : i < length ks = subst (λ n. i < n) (sym (length_is (λ row. row.0) ks are)) within in
    let here : get_or ks i 0 ≡ keysym = number_at (λ row. row.0) ks i are within ∙ has in
    elim (cases_lt i place) [
      | inl before ↦ let less = at.1 i before in omega (arith, less, here)
      | inr after ↦ let more = at.2 i after there in omega (arith, more, here)
    ])

pub returns-in-Ok : goal.returns-in-Ok
returns-in-Ok c =
    let place = c.in-Ok.place in
    let at = place_of c.older_keysyms.result.now c.args.keysym place c.older_keysyms.ensures.members c.older_keysyms.ensures.rising c.in-Ok.ensures.position in
    let row = row_at older_characters place in
    let code : get_or c.older_characters.result.now place 0 ≡ row.1 = number_at (λ row. row.1) c.older_characters.result.now place c.older_characters.ensures at.0 in
    let low = (kept 0xff older_characters place table at.0).scalar in
    let looked : lookup (nat_eq c.args.keysym) older_characters ≡ Some row.1 = subst (λ k. lookup (nat_eq k) older_characters ≡ Some row.1) at.1 (found 0xff older_characters place table at.0) in
    scalar_given c.from_u32.result (get_or c.older_characters.result.now place 0) c.from_u32.ensures.cases c.from_u32.ensures.value (omega (arith, code, low)) ∙ ap Some code ∙ sym looked

pub returns-in-Err : goal.returns-in-Err
returns-in-Err c =
    sym (nowhere c.older_keysyms.result.now c.args.keysym c.in-Err.field-0 c.older_keysyms.ensures.members c.older_keysyms.ensures.rising c.in-Err.ensures.position)
