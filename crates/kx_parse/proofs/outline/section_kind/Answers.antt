use Rattle.std.proofs.Common.{◌∙◌, sym}
use Rattle.kx_parse.proofs.PassedSections.{kind-geometry, kind-known}
use Rattle.kx_parse.proofs.outline.section_kind.Goals as goal

pub returns-then-is_keyword : goal.returns-then-is_keyword
returns-then-is_keyword c = kind-geometry c.args.word c.word_token-token.result c.word_token-token.ensures (sym c.is_keyword.ensures ∙ c.if-is_keyword.true)

pub returns : goal.returns
returns c = kind-known c.kind_of.result c.args.word c.word_token-token.result c.word_token-token.ensures c.kind_of.ensures (sym c.is_keyword.ensures ∙ c.if-is_keyword.false)
