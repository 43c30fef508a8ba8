use Rattle.std.proofs.Common.{◌≡◌, ◌∙◌, Bool, true, false, not, ap, refl, sym}
use Rattle.std.proofs.lemmas.Bool.{true≢false}
use Rattle.std.specs.Prelude.{is_none, is_some}
use Rattle.kx_parse.proofs.PassedOutline.{mode-word, moded-unjoined, moded-untold, none-of}
use Rattle.kx_parse.proofs.outline.front_is_moded.Goals as goal
use Rattle.kx_parse.proofs.outline.front_is_moded.Goals.{then-front_is_word, else-front_is_word}

told : (some none : Bool) → some ≡ not none → not some ≡ none
told some true h = rw h refl
told some false h = rw h refl

pub returns-then-is_none-clause-none : goal.returns-then-is_none-clause-none
returns-then-is_none-clause-none c =
    let is = told (is_some c.mode_of.result) c.is_none.result c.is_none.ensures in
    λ same. moded-unjoined c.args.word c.args.bytes.now c.word_token.result c.word_token.ensures (sym c.mode_of.ensures ∙ none-of c.mode_of.result (is ∙ c.if-is_none.true))

pub returns-then-front_is-clause-some : goal.returns-then-front_is-clause-some
returns-then-front_is-clause-some c =
    let is = told (is_some c.mode_of.result) c.is_none.result c.is_none.ensures in
    λ same. mode-word c.args.word c.word_token.result c.word_token.ensures (ap is_none (sym c.mode_of.ensures) ∙ is ∙ c.if-is_none.false)

pub returns-else-front_is-clause-some : goal.returns-else-front_is-clause-some
returns-else-front_is-clause-some c =
    let is = told (is_some c.mode_of.result) c.is_none.result c.is_none.ensures in
    λ same. mode-word c.args.word c.word_token.result c.word_token.ensures (ap is_none (sym c.mode_of.ensures) ∙ is ∙ c.if-is_none.false)

pub returns-else-front_is-clause-none : goal.returns-else-front_is-clause-none
returns-else-front_is-clause-none c = λ same.
    elim c.if-front_is_word.branch [
      | then-front_is_word w ↦ absurd (true≢false (sym w.if-front_is_word.true ∙ sym w.value-is ∙ c.if-front_is.false))
      | else-front_is_word w ↦ moded-untold c.args.word c.args.bytes.now c.requires (c.front_is_word.ensures w.if-front_is_word.false)
          (sym w.front_is.ensures ∙ sym w.value-is ∙ c.if-front_is.false) (sym c.front_is-else-front_is.ensures ∙ same)
    ]
