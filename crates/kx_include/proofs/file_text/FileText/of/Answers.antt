use Rattle.std.proofs.Common.{ℕ, ◌≤◌, List, length, subst}
use Rattle.std.specs.Option.{IfSome}
use Rattle.kx_lex.specs.declared.scan.TheConstants.{MOST_TEXT_BYTES}
use Rattle.kx_parse.specs.Outline.{IsOutline}
use Rattle.kx_include.proofs.FileTexts.{file_text-of}
use Rattle.kx_include.proofs.file_text.FileText.of.Goals as goal

pub invariant_of-result : goal.invariant_of-result
invariant_of-result c =
    let outline = c.in_ok-outline.outline in
    let is = subst (λ (bs : List ℕ). IfSome outline (λ o. IsOutline bs o)) c.as_slice.ensures.value c.in_ok-outline.ensures.outline in
    let short = subst (λ (bs : List ℕ). IfSome outline (λ _. length bs ≤ MOST_TEXT_BYTES)) c.as_slice.ensures.value c.in_ok-outline.ensures.short in
    file_text-of c.args.bytes.items outline c.in_ok-maps.maps is short c.in_ok-maps.ensures
