use Rattle.std.proofs.Common.{sym}
use Rattle.kx_lex.proofs.PassedOver.{token-any}
use Rattle.kx_lex.proofs.passing.pass_token.Goals as goal

pub returns-in-Lexeme-clause-passes : goal.returns-in-Lexeme-clause-passes
returns-in-Lexeme-clause-passes c = token-any (sym c.in-Lexeme.ensures.exact) c.in-Lexeme.ensures.within c.past_token.ensures.skips
