use Rattle.std.proofs.Common.{◌≡◌, ℕ, ◌+◌, ◌++◌, [], append-nil, drop, refl, sym, ap, ◌∙◌}
use Rattle.std.proofs.lemmas.List.{drop_all, drop_more}
use Rattle.kx_lex.specs.Strings.{text_value}
use Rattle.kx_lex.specs.declared.string.EscapeState.{EscapeState}
use Rattle.kx_lex.specs.declared.string.EscapeState.TheVariants.{Plain, Escaped, Octal}
use Rattle.kx_lex.proofs.Strings.{text_value-plain}
use Rattle.kx_lex.proofs.string.text_bytes.Goals as goal
use Rattle.kx_lex.proofs.string.text_bytes.Goals.{in-Octal+in_ok-push, in_default}

nothing_left : (state : EscapeState) → ((value count : ℕ) → state ≡ Octal value count → ⊥) → text_value state [] ≡ []
nothing_left Plain other = refl
nothing_left Escaped other = refl
nothing_left (Octal value count) other = absurd (other value count refl)

pub returns-then-not-contains : goal.returns-then-not-contains
returns-then-not-contains c =
    let plain = text_value-plain c.args.text.now (sym c.contains.ensures.value ∙ c.if-not-contains.true) in
    rw plain c.from_slice.ensures.items

pub loop-byte-preserved : goal.loop-byte-preserved
loop-byte-preserved c =
    let text = c.args.text.now in
    let i = c.loop-byte.byte-index in
    c.loop-byte.invariant
    ∙ ap (λ rest. c.loop-byte.out.items ++ text_value c.loop-byte.state rest) (drop_more text i 0 c.loop-byte-test.true)
    ∙ c.in_ok-state.ensures (drop (i + 1) text)

pub returns : goal.returns
returns c =
    let text = c.args.text.now in
    let i = c.loop-byte.byte-index in
    let whole = c.loop-byte.invariant ∙ ap (λ rest. c.loop-byte.out.items ++ text_value c.loop-byte.state rest) (drop_all i text c.loop-byte-test.false) in
    elim c.match-state.branch [
      | in-Octal+in_ok-push w ↦ ap (λ out. out.items) w.out-is ∙ w.in_ok-push.ensures.items ∙ sym (rw w.in-Octal.is at whole)
      | in_default w ↦ ap (λ out. out.items) w.out-is ∙ sym (rw (nothing_left c.loop-byte.state w.in_default.not-Octal, append-nil) at whole)
    ]
