use Rattle.std.proofs.Common.{◌≡◌, ◌∙◌, [], List, ℕ, subst, sym}
use Rattle.std.proofs.lemmas.Bool.{eqb-true}
use Rattle.kx_lex.specs.Passing.{Passes}
use Rattle.kx_lex.specs.Tokens.{mark, semicolon}
use Rattle.kx_parse.proofs.PassedSections.{end-passes, no-bytes}
use Rattle.kx_parse.proofs.outline.ends_source.Goals as goal

pub returns-in-Some-pass_mark : goal.returns-in-Some-pass_mark
returns-in-Some-pass_mark c is_empty text ends =
    let none : c.in-Some-pass_mark.rest.now ≡ [] = no-bytes c.in-Some-pass_mark.rest.now (eqb-true _ _ (sym c.is_empty.ensures ∙ is_empty)) in
    end-passes text ends c.in-Some.ensures.passes (subst (λ (bs : List ℕ). Passes (λ t. mark t semicolon) c.in-Some.end.now bs) none c.in-Some-pass_mark.ensures.passes)
