use Rattle.std.proofs.Common.{ℕ, List, ◌≡◌, ◌∙◌, subst, false, slice_index}
use Rattle.std.proofs.lemmas.Bool.{both_ways}
use Rattle.kx_lex.specs.Bytes.{is_blank}
use Rattle.kx_lex.proofs.PassedOver.{token-end, token-other}
use Rattle.kx_lex.proofs.Pieces.{blank-in}
use Rattle.kx_lex.proofs.passing.front_may_be_comment.Goals as goal

pub returns-in_default : goal.returns-in_default
returns-in_default c never other =
    let here = c.in-Some.ensures.cases.0 in
    let first : is_blank c.in-Some.first.now ≡ false = subst (λ (bs : List ℕ). is_blank (slice_index bs 0) ≡ false) here other in
    token-other c.args.bytes.now c.in-Some.first.now c.in-Some.field-0-1.now here
    (λ e. both_ways _ first (blank-in c.in-Some.first.now e)) (λ e. c.in_default.not-Hash (c.start_of.ensures ∙ e)) (λ e. c.in_default.not-Slash (c.start_of.ensures ∙ e))

pub returns-in-None : goal.returns-in-None
returns-in-None c never blank = token-end c.args.bytes.now c.in-None.ensures.cases
