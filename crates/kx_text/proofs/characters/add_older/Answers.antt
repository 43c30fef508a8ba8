use Rattle.std.proofs.Common.{◌≡◌, ◌<◌, Some, get_or, length, eqb-true, eq-eqb, sym, ap, subst, ◌∙◌, arith, inl, inr}
use Rattle.std.proofs.lemmas.Bool.{cases_lt}
use Rattle.std.specs.List.{Contains}
use Rattle.kx_text.specs.Characters.{character_of}
use Rattle.kx_text.specs.OlderCharacters.{older_characters}
use Rattle.kx_text.proofs.CharacterTable.{row_at, length_is, number_at, placed, row_gives}
use Rattle.kx_text.proofs.characters.add_older.Goals as goal

pub loop-place-preserved : goal.loop-place-preserved
loop-place-preserved c =
    let place = c.loop-place.place in
    let inv = c.loop-place.invariant in
    let steps = c.in_ok-push_if.ensures in
    let number = c.args.number in
    let keysyms = c.older_keysyms-others.result.now in
    let characters = c.older_characters-characters.result.now in
    let same_length = length_is (λ row. row.0) keysyms c.older_keysyms-others.ensures.members in
    let within : place < length older_characters = omega (arith, same_length, c.loop-place-test.true) in
    let row = row_at older_characters place in
    let keysym : get_or keysyms place 0 ≡ row.0 = number_at (λ row. row.0) keysyms place c.older_keysyms-others.ensures.members within in
    let character : get_or characters place 0 ≡ row.1 = number_at (λ row. row.1) characters place c.older_characters-characters.ensures within in
    record {
      kept = λ k at. steps.kept k (inv.kept k at);
      each = λ k at. elim (steps.each k at) [
        | inl before ↦ inv.each k before
        | inr here ↦
            let is_keysym : row.0 ≡ k = sym (here.1 ∙ keysym) in
            let is_number : row.1 ≡ number = sym character ∙ eqb-true (get_or characters place 0) number here.0 in
            inr (subst (λ k. character_of k ≡ Some number) is_keysym (row_gives place within ∙ ap Some is_number))
      ];
      all = λ i below is. elim (cases_lt i place) [
        | inl less ↦ steps.kept _ (inv.all i less is)
        | inr more ↦
            let is_place : place ≡ i = omega (arith, more, below) in
            let is_number : get_or characters place 0 ≡ number = character ∙ ap (λ i. (row_at older_characters i).1) is_place ∙ is in
            let given = steps.given (eq-eqb (get_or characters place 0) number is_number) in
            subst (λ k. Contains c.push_if.new.keysyms.items k) (keysym ∙ ap (λ i. (row_at older_characters i).0) is_place) given
      ];
    }

pub returns-clause-all : goal.returns-clause-all
returns-clause-all c k gives =
    let p = placed k c.args.number older_characters gives in
    let same_length = length_is (λ row. row.0) c.older_keysyms-others.result.now c.older_keysyms-others.ensures.members in
    let below : p.place < c.loop-place.place = omega (arith, same_length, p.within, c.loop-place-test.false) in
    subst (λ k. Contains c.loop-place.keysyms.items k) p.is_keysym (c.loop-place.invariant.all p.place below p.is_character)
