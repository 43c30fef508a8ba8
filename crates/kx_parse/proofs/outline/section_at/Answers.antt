use Rattle.std.proofs.Common.{List, ◌≡◌, ◌⊎◌, Err, inl, inr, sym, ◌∙◌, ap}
use Rattle.kx_lex.specs.declared.fault.Fault.TheVariants.{Memory}
use Rattle.kx_lex.specs.declared.token.Token.{Token}
use Rattle.kx_parse.specs.Outline.{HasNoSectionAt}
use Rattle.kx_tree.specs.Sections.{section}
use Rattle.kx_parse.proofs.PlacedSections.{found-is, none-is}
use Rattle.kx_parse.proofs.outline.section_at.Goals as goal

pub returns-in-Ok-clause-section : goal.returns-in-Ok-clause-section
returns-in-Ok-clause-section c =
    let read = ap (λ (ts : List Token). (section c.args.text.now).read ts) (sym c.as_slice.ensures.value) ∙ c.in-Ok.ensures in
    found-is c.args.text.now c.args.place c.in_ok-tokens.tokens.items c.in_ok-tokens.ensures c.in-Ok.section c.in-Ok.field-0-1.now read

pub returns-clause-none : goal.returns-clause-none
returns-clause-none c = go c.in-Err.ensures
  where
    go : (c.in-Err.fault ≡ Memory) ⊎ ((section c.args.text.now).read c.as_slice.result.now ≡ Err c.in-Err.fault) → HasNoSectionAt c.args.text.now c.args.place
    go (inl memory) = absurd (c.is_memory.ensures.other c.if-is_memory.false memory)
    go (inr read) =
        let failed = ap (λ (ts : List Token). (section c.args.text.now).read ts) (sym c.as_slice.ensures.value) ∙ read in
        none-is c.args.text.now c.args.place c.in_ok-tokens.tokens.items c.in_ok-tokens.ensures c.in-Err.fault failed
