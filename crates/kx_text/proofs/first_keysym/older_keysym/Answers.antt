use Rattle.std.proofs.Common.{◌≡◌, ℕ, ◌<◌, List, Ok, Err, None, Some, get_or, length, map, nat_eq, sym, ap, subst, ◌∙◌, arith, inl, inr}
use Rattle.std.proofs.lemmas.Bool.{cases_lt}
use Rattle.std.proofs.lemmas.List.{get_or-map, length-map}
use Rattle.std.proofs.lemmas.List.Sorted.{searched}
use Rattle.std.specs.List.Sorted.{IsBinarySearchResult}
use Rattle.std.specs.Map.{lookup}
use Rattle.std.specs.Ordering.{nat_cmp}
use Rattle.ks_core.specs.Rising.{IsRising}
use Rattle.kx_text.specs.FirstKeysym.{by_character}
use Rattle.kx_text.proofs.CharacterTable.{Row, row_at, absent}
use Rattle.kx_text.proofs.Numbered.{climbing, climbs_found, first_row}
use Rattle.kx_text.proofs.first_keysym.older_keysym.Goals as goal

abbrev numbers : List ℕ
numbers = map (λ (row : Row). row.0) by_character

within : (ns : List ℕ) (place : ℕ) → ns ≡ numbers → place < length ns → place < length by_character
within ns place are inside = let same = ap length are ∙ length-map by_character (λ (row : Row). row.0) in omega (arith, same, inside)

number_at : (f : Row → ℕ) (ns : List ℕ) (i : ℕ) → ns ≡ map f by_character → i < length by_character → get_or ns i 0 ≡ f (row_at by_character i)
number_at f ns i are inside = ap (λ ns. get_or ns i 0) are ∙ get_or-map f by_character i (0, 0) 0 inside

nowhere : (ns : List ℕ) (number place : ℕ) → ns ≡ numbers → IsRising ns → IsBinarySearchResult (λ y. nat_cmp y number) ns (Err place) → lookup (nat_eq number) by_character ≡ None
nowhere ns number place are rising is =
    let at = searched ns number (Err place) is rising.rises in
    absent number by_character (λ i inside has.
    let same = ap length are ∙ length-map by_character (λ (row : Row). row.0) in
    let there : i < length ns = omega (arith, same, inside) in
    let here : get_or ns i 0 ≡ number = number_at (λ row. row.0) ns i are inside ∙ has in
    elim (cases_lt i place) [
      | inl before ↦ let less = at.1 i before in omega (arith, less, here)
      | inr after ↦ let more = at.2 i after there in omega (arith, more, here)
    ])

place_in : (ns : List ℕ) (number place : ℕ) → ns ≡ numbers → IsRising ns → IsBinarySearchResult (λ y. nat_cmp y number) ns (Ok place) → (place < length by_character) × ((row_at by_character place).0 ≡ number)
place_in ns number place are rising is =
    let at = searched ns number (Ok place) is rising.rises in
    let inside = within ns place are at.0 in
    (inside, sym (number_at (λ row. row.0) ns place are inside) ∙ at.1)

pub bounds-first_keysyms-place : goal.bounds-first_keysyms-place
bounds-first_keysyms-place c =
    let at = place_in c.each_character.result.now c.args.code_point c.in-Ok.place c.each_character.ensures.members c.each_character.ensures.rising c.in-Ok.ensures.position in
    let same = ap length c.first_keysyms.ensures ∙ length-map by_character (λ (row : Row). row.1) in
    omega (arith, same, at.0)

pub returns-in-Ok : goal.returns-in-Ok
returns-in-Ok c =
    let place = c.in-Ok.place in
    let at = place_in c.each_character.result.now c.args.code_point place c.each_character.ensures.members c.each_character.ensures.rising c.in-Ok.ensures.position in
    let row = row_at by_character place in
    let value : get_or c.first_keysyms.result.now place 0 ≡ row.1 = number_at (λ row. row.1) c.first_keysyms.result.now place c.first_keysyms.ensures at.0 in
    let looked : lookup (nat_eq c.args.code_point) by_character ≡ Some row.1 = subst (λ k. lookup (nat_eq k) by_character ≡ Some row.1) at.1 (climbs_found 0 by_character place climbing at.0) in
    ap Some value ∙ sym looked ∙ first_row c.args.code_point

pub returns-in-Err : goal.returns-in-Err
returns-in-Err c =
    sym (nowhere c.each_character.result.now c.args.code_point c.in-Err.field-0 c.each_character.ensures.members c.each_character.ensures.rising c.in-Err.ensures.position)
    ∙ first_row c.args.code_point
