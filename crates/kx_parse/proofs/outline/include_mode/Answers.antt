use Rattle.std.proofs.Common.{◌∙◌, sym}
use Rattle.kx_lex.specs.Reading.{token_of}
use Rattle.kx_lex.specs.declared.token.TokenKind.TheVariants.{Word}
use Rattle.kx_parse.proofs.PassedOutline.{if-none, include-unjoined, include-untold, join-kind}
use Rattle.kx_parse.proofs.outline.include_mode.Goals as goal

pub returns-in_err-mode-clause-none : goal.returns-in_err-mode-clause-none
returns-in_err-mode-clause-none c =
    if-none c.from_residual.result (include-unjoined c.args.word c.args.bytes.now c.word_token.result c.word_token.ensures (sym c.join_of.ensures ∙ c.in_err-mode.was))

pub returns-then-not-front_is-clause-none : goal.returns-then-not-front_is-clause-none
returns-then-not-front_is-clause-none c = include-untold c.args.word c.args.bytes.now c.requires (sym c.front_is.ensures ∙ c.if-not-front_is.true)

pub returns-clause-some : goal.returns-clause-some
returns-clause-some c = λ offset n. join-kind (token_of (Word c.args.word) offset n) c.word_token.result (sym c.word_token.ensures) ∙ sym c.join_of.ensures ∙ c.in_ok-mode.was
