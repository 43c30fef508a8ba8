use Rattle.std.proofs.Common.{ℕ, List, ◌≡◌, ◌∙◌, subst, false, slice_index}
use Rattle.std.proofs.lemmas.Bool.{both_ways}
use Rattle.kx_lex.specs.Bytes.{is_blank}
use Rattle.kx_lex.proofs.PassedOver.{token-other}
use Rattle.kx_lex.proofs.Pieces.{blank-in}
use Rattle.kx_lex.proofs.passing.comment_len.Goals as goal

pub returns-in_default : goal.returns-in_default
returns-in_default c = record {
  comment = tt;
  none = λ other.
      let here = c.in_ok-first.ensures.cases.0 in
      let first : is_blank c.in_ok-first.first.now ≡ false = subst (λ (bs : List ℕ). is_blank (slice_index bs 0) ≡ false) here other in
      token-other c.args.bytes.now c.in_ok-first.first.now c.in_ok-first.rest.now here
      (λ e. both_ways _ first (blank-in c.in_ok-first.first.now e)) (λ e. c.in_default.not-Hash (c.start_of.ensures ∙ e)) (λ e. c.in_default.not-Slash (c.start_of.ensures ∙ e));
  within = tt;
  some = tt;
}
