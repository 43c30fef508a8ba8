use Rattle.std.proofs.Common.{◌≡◌, ◌∙◌, [], List, ℕ, subst, sym}
use Rattle.std.proofs.lemmas.Bool.{eqb-true}
use Rattle.kx_lex.specs.Passing.{PassesAs}
use Rattle.kx_lex.specs.Reading.{mark_len}
use Rattle.kx_lex.proofs.PassedOver.{Ends-drop, Ends-more}
use Rattle.kx_parse.specs.Outline.{outline_from, sections_before}
use Rattle.kx_parse.proofs.PassedSections.{mark-fits, no-bytes, outlined-file}
use Rattle.kx_parse.proofs.outline.outline_file.Goals as goal

pub pass_sections-requires-clause-ends : goal.pass_sections-requires-clause-ends
pass_sections-requires-clause-ends c = Ends-more (Ends-drop (mark_len c.args.text.now) c.args.text.now) c.first_in.ensures.skips.ends

pub returns-clause-outline : goal.returns-clause-outline
returns-clause-outline c =
    let text = c.args.text.now in
    let passes : PassesAs text (sections_before text) (λ ss. c.in-Some.outline ≡ outline_from ss) c.first_in.result.now c.in-Some.rest.now = rw c.in-Some.is at c.in_ok-outline.ensures in
    let ended : c.in-Some.rest.now ≡ [] = no-bytes c.in-Some.rest.now (eqb-true _ _ (sym c.is_empty.ensures ∙ c.if-not-is_empty.false)) in
    outlined-file text c.first_in.result.now c.in-Some.outline (mark-fits text) c.first_in.ensures.skips (subst (λ (bs : List ℕ). PassesAs text (sections_before text) (λ ss. c.in-Some.outline ≡ outline_from ss) c.first_in.result.now bs) ended passes)
