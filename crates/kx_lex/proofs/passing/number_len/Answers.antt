use Rattle.std.proofs.Common.{◌∙◌, sym}
use Rattle.kx_lex.proofs.PassedOver.{hex-piece, whole-piece}
use Rattle.kx_lex.proofs.passing.number_len.Goals as goal

pub returns-then-begins_hex-clause-exact : goal.returns-then-begins_hex-clause-exact
returns-then-begins_hex-clause-exact c =
    rw (c.hex_len.ensures.exact, c.past.ensures) (c.front_is_digit.ensures.number c.if-not-front_is_digit.false ∙ hex-piece c.args.bytes.now (sym c.begins_hex.ensures ∙ c.if-begins_hex.true))

pub returns-clause-exact : goal.returns-clause-exact
returns-clause-exact c =
    rw c.digit_len-len.ensures.exact (c.front_is_digit.ensures.number c.if-not-front_is_digit.false ∙ whole-piece c.args.bytes.now (sym c.begins_hex.ensures ∙ c.if-begins_hex.false)
    (λ e. c.if-byte_at-eq46.false (c.byte_at.ensures ∙ rw c.digit_len-len.ensures.exact e)))

pub returns-clause-some : goal.returns-clause-some
returns-clause-some c = rw c.digit_len-len.ensures.exact (c.front_is_digit.ensures.some c.if-not-front_is_digit.false)
