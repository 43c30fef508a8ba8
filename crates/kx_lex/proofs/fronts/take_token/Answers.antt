use Rattle.std.proofs.Common.{sym}
use Rattle.kx_lex.proofs.PassedOver.{Ends-drop, Ends-more, token-begins}
use Rattle.kx_lex.proofs.fronts.take_token.Goals as goal

pub returns-in-Lexeme-clause-token : goal.returns-in-Lexeme-clause-token
returns-in-Lexeme-clause-token c us r = rw c.span_at.ensures (token-begins (sym c.in-Lexeme.ensures.exact) c.in-Lexeme.ensures.within c.past_token.ensures.skips c.args.text.now us c.requires.ends r)

pub returns-in-Lexeme-clause-ends : goal.returns-in-Lexeme-clause-ends
returns-in-Lexeme-clause-ends c = Ends-more (Ends-more c.requires.ends (Ends-drop c.in-Lexeme.len c.args.bytes.now)) c.past_token.ensures.skips.ends
