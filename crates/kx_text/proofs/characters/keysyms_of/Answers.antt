use Rattle.std.proofs.Common.{◌≡◌, ◌+◌, ◌<◌, true, nat_lt, Some, sym, ap, subst, ◌∙◌, arith, inl, inr}
use Rattle.std.proofs.lemmas.Bool.Decides.{nat_tests}
use Rattle.std.specs.List.{Contains}
use Rattle.kx_text.specs.Characters.{character_of, is_latin}
use Rattle.kx_text.proofs.CharacterTable.{latin_gives, unicode_of, why}
use Rattle.kx_text.proofs.characters.keysyms_of.Goals as goal

pub returns-clause-each : goal.returns-clause-each
returns-clause-each c k at =
    let number = c.from-number.result in
    let is_character : number ≡ c.args.character = c.from-number.ensures in
    elim (c.in_ok-add_older.ensures.each k at) [
      | inr row ↦ row ∙ ap Some is_character
      | inl second ↦ elim (c.in_ok-push_if-2.ensures.each k second) [
        | inr unicode ↦
            let least : 0 < number = grind (arith, nat_tests, unicode.0) in
            let gives = unicode_of c.args.character c.ranges.character.0 (omega (arith, least, is_character)) in
            let is_keysym : c.args.character + 0x1000000 ≡ k = omega (arith, is_character, unicode.1) in
            subst (λ k. character_of k ≡ Some c.args.character) is_keysym gives
        | inl first ↦ elim (c.in_ok-push_if.ensures.each k first) [
          | inr latin ↦
              let is_keysym : number ≡ k = sym latin.1 in
              let gives = latin_gives number (sym c.is_latin.ensures ∙ latin.0) in
              subst (λ k. character_of k ≡ Some c.args.character) is_keysym (gives ∙ ap Some is_character)
          | inl none ↦
              let at = subst (λ ks. Contains ks k) c.new-keysyms.ensures.items none in absurd (omega (arith, at.1))
        ]
      ]
    ]

pub returns-clause-all : goal.returns-clause-all
returns-clause-all c k gives =
    let number = c.from-number.result in
    let is_character : number ≡ c.args.character = c.from-number.ensures in
    let older = c.in_ok-add_older.ensures in
    let second = c.in_ok-push_if-2.ensures in
    let first = c.in_ok-push_if.ensures in
    elim (why k c.args.character gives) [
      | inl latin ↦
          let is_keysym : number ≡ k = is_character ∙ sym latin.1 in
          let given = first.given (c.is_latin.ensures ∙ ap is_latin is_keysym ∙ latin.0) in
          older.kept k (second.kept k (subst (λ k. Contains c.push_if.new.keysyms.items k) is_keysym given))
      | inr others ↦ elim others [
        | inl unicode ↦
            let least : nat_lt 0 number ≡ true = grind (arith, nat_tests, unicode.0, is_character) in
            let is_keysym : number + 0x1000000 ≡ k = omega (arith, is_character, unicode.1) in
            older.kept k (subst (λ k. Contains c.push_if-2.new.keysyms.items k) is_keysym (second.given least))
        | inr row ↦ older.all k (row ∙ ap Some (sym is_character))
      ]
    ]
