use Rattle.std.proofs.Common.{◌≡◌, ◌∙◌, Option, Some, ap, subst}
use Rattle.kx_lex.specs.Passing.{PassesWord}
use Rattle.kx_lex.specs.declared.keyword.Keyword.{Keyword}
use Rattle.kx_lex.specs.declared.keyword.Keyword.TheVariants as keywords
use Rattle.kx_lex.proofs.PassedOver.{Ends-more}
use Rattle.kx_parse.proofs.PassedSections.{front-passes, some-map}
use Rattle.kx_parse.proofs.outline.pass_source_front.Goals as goal

pub pass_optional_name-requires-clause-ends : goal.pass_optional_name-requires-clause-ends
pass_optional_name-requires-clause-ends c =
    Ends-more (Ends-more c.requires.ends (c.in_ok-_flags.ensures.passes c.args.text.now c.requires.ends).lexes.ends) c.in-Some-Some-XkbKeymap-default.ensures.passes.lexes.ends

pub returns-clause-passes : goal.returns-clause-passes
returns-clause-passes c =
    let keymap = c.in-Some-Some-XkbKeymap-default in
    let spells : keymap.field-0-0 ≡ Some keywords.XkbKeymap = keymap.field-0-0-is ∙ ap (λ (k : Keyword). Some k) keymap.field-0-0-0-is in
    let word = subst (λ (k : Option Keyword). PassesWord k c.in_ok-_flags.word.now keymap.behind.now) spells keymap.ensures.passes in
    let name = rw c.in-Some.is at c.in_ok-_name.ensures.passes in
    some-map c.pass_mark.result (λ rest passes. front-passes c.args.text.now c.in_ok-_flags._flags c.in-Some._name c.requires.ends c.in_ok-_flags.ensures.passes word name passes) c.pass_mark.ensures.passes
