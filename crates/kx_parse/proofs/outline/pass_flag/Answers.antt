use Rattle.std.proofs.Common.{◌∙◌, sym}
use Rattle.kx_lex.specs.Reading.{token_of}
use Rattle.kx_lex.specs.declared.token.TokenKind.TheVariants.{Word}
use Rattle.kx_parse.proofs.PassedOutline.{if-none}
use Rattle.kx_parse.proofs.PassedSections.{flag-kind, flag-nowhere, flag-other, flag-word}
use Rattle.kx_parse.proofs.outline.pass_flag.Goals as goal

pub returns-in_err-word-clause-none : goal.returns-in_err-word-clause-none
returns-in_err-word-clause-none c = if-none c.from_residual.result (flag-nowhere c.args.bytes.now c.requires c.in_err-word.ensures.none)

pub returns-in_err-flag-clause-none : goal.returns-in_err-flag-clause-none
returns-in_err-flag-clause-none c =
    if-none c.from_residual-in_err-flag.result
    (flag-other c.in_ok-word.ensures.passes
    (λ offset n. flag-kind (token_of (Word c.in_ok-word.word) offset n) c.word_token.result (sym c.word_token.ensures) ∙ sym c.flag_of.ensures ∙ c.in_err-flag.was))

pub returns-clause-passes : goal.returns-clause-passes
returns-clause-passes c =
    flag-word c.in_ok-flag.flag c.in_ok-word.ensures.passes
    (λ offset n. flag-kind (token_of (Word c.in_ok-word.word) offset n) c.word_token.result (sym c.word_token.ensures) ∙ sym c.flag_of.ensures ∙ c.in_ok-flag.was)
